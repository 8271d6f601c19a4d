-- Whatever stores the bytes that are left completes the number. Assumes nothing.
use borrow.Author.Rules.{rules}
use Rattle.binary.proofs.ByteLaws.{low_step, low_done}
use Rattle.binary.proofs.put_low.Goals as goal

pub loop-preserved : goal.loop-preserved
loop-preserved c = (search rules, search rules, search low_step)

pub returns : goal.returns
returns c = search low_done
