-- Whatever stores the bytes from here on completes the whole. Assumes nothing.
use borrow.Author.Rules.{rules}
use Rattle.writing.proofs.PutLaws.{bytes_step, bytes_done}
use Rattle.writing.proofs.put_each.Goals as goal

pub loop-b-preserved : goal.loop-b-preserved
loop-b-preserved c = (search rules, search rules, search bytes_step)

pub returns : goal.returns
returns c = search bytes_done
