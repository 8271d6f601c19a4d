-- The test decides. Assumes nothing.
use Rattle.psl.specs.Write.{record_check}
use Rattle.psl.proofs.check_psl.Goals as goal

pub returns : goal.returns
unfolding record_check
returns c = rw (c.demand.ensures, c.record_fits.ensures)
