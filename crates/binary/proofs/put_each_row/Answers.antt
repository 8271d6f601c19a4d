-- Whatever stores the rows from here on completes the whole. Assumes nothing.
use borrow.Author.Rules.{rules}
use Rattle.binary.proofs.ByteLaws.{rows_step, rows_done}
use Rattle.binary.proofs.put_each_row.Goals as goal

pub loop-i-preserved : goal.loop-i-preserved
loop-i-preserved c = (search rules, search rules, search rows_step)

pub returns : goal.returns
returns c = search rows_done
