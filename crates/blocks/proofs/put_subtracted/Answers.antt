-- Storing the rest from here on completes storing all of them. Assumes nothing.
use Rattle.blocks.proofs.BlockLaws.{less_more, less_done}
use Rattle.blocks.proofs.put_subtracted.Goals as goal

pub loop-i-preserved : goal.loop-i-preserved
loop-i-preserved c = less_more _ _ _ _ _ c.loop-i.invariant c.loop-i-test.true _ _ c.store.ensures c.saturating_sub.ensures

pub returns : goal.returns
returns c = search less_done
