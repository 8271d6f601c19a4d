-- Whatever puts the numbers from here on completes the whole. Assumes nothing.
use mathlib.Core.Path.{refl}
use Rattle.writing.proofs.PutLaws.{completes_all}
use Rattle.cases.proofs.CaseLaws.{spaced_step, spaced_done}
use borrow.Author.Rules.{rules}
use Rattle.cases.proofs.puts.put_spaced.Goals as goal

pub loop-v-init : goal.loop-v-init
loop-v-init c = (refl, search rules, search rules, completes_all _ _ _)

pub loop-v-preserved : goal.loop-v-preserved
loop-v-preserved c = (search rules, search rules, search rules, search spaced_step)

pub returns : goal.returns
returns c = search spaced_done
