-- Whatever puts the rows from here on completes the whole. Assumes nothing.
use mathlib.Core.Path.{refl}
use Rattle.cases.proofs.CaseLaws.{rows_start, rows_step, rows_done}
use borrow.Author.Rules.{rules}
use Rattle.cases.proofs.puts.put_rows.Goals as goal

pub loop-i-init : goal.loop-i-init
loop-i-init c = (refl, search rules, search rules, rows_start _ _ _ _ _ _)

pub loop-i-preserved : goal.loop-i-preserved
loop-i-preserved c = (search rules, search rules, search rules, search rows_step)

pub returns : goal.returns
returns c = search rows_done
