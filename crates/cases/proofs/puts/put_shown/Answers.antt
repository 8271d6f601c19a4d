-- Whatever puts the bytes from here on completes the whole. Assumes nothing.
use mathlib.Core.Path.{refl}
use Rattle.writing.proofs.PutLaws.{completes_all}
use Rattle.cases.proofs.CaseLaws.{shown_step, shown_done}
use borrow.Author.Rules.{rules}
use Rattle.cases.proofs.puts.put_shown.Goals as goal

pub loop-b-init : goal.loop-b-init
loop-b-init c = (refl, search rules, search rules, completes_all _ _ _)

pub loop-b-preserved : goal.loop-b-preserved
loop-b-preserved c = (search rules, search rules, search rules, search shown_step)

pub returns : goal.returns
returns c = search shown_done
