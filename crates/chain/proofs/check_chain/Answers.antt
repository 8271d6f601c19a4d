-- The test decides. Assumes nothing.
use Rattle.chain.specs.Write.{record_check}
use Rattle.chain.proofs.check_chain.Goals as goal

pub returns : goal.returns
unfolding record_check
returns c = rw (c.demand.ensures, c.record_fits.ensures)
