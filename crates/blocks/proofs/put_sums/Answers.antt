-- Storing the sums that go on from here completes storing all of them. Assumes nothing.
use borrow.Author.Rules.{rules}
use Rattle.blocks.proofs.BlockLaws.{put_over, put_more, put_done}
use Rattle.blocks.proofs.put_sums.Goals as goal

pub returns-then-sum-z : goal.returns-then-sum-z
returns-then-sum-z c = search put_over

pub loop-i-preserved : goal.loop-i-preserved
loop-i-preserved c = (search rules, search put_more)

pub returns : goal.returns
returns c = search put_done
