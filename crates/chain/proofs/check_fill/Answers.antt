-- The last block's ends. Assumes nothing.
use Rattle.chain.specs.Read.{fill_check}
use Rattle.chain.proofs.check_fill.Goals as goal

pub returns : goal.returns
unfolding fill_check
returns c = c.require.ensures
