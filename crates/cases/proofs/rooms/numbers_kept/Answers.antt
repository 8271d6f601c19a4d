-- The marks from here on are all there exactly when those from the start are. Assumes nothing.
use mathlib.Core.Path.{refl}
use Rattle.cases.proofs.CaseLaws.{mark_kept, mark_lost, marks_end}
use Rattle.cases.proofs.rooms.numbers_kept.Goals as goal

pub loop-i-init : goal.loop-i-init
loop-i-init c = refl

pub returns-then-vs-i-ne-MARK : goal.returns-then-vs-i-ne-MARK
returns-then-vs-i-ne-MARK c = search mark_lost

pub loop-i-preserved : goal.loop-i-preserved
loop-i-preserved c = search mark_kept

pub returns : goal.returns
returns c = search marks_end
