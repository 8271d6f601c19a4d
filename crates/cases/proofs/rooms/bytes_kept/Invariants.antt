-- The marks from here on are all there exactly when those from the start are. Assumes nothing.
use mathlib.Core.Path.{◌≡◌}
use lib.ListN.{drop}
use Rattle.cases.specs.Marks.{all_marked}
use Rattle.cases.proofs.rooms.bytes_kept.Given as goal

abbrev pub invariant-loop-i : goal.invariant-loop-i
invariant-loop-i l = all_marked (drop l.i l.buf) ≡ all_marked (drop l.from l.buf)
