-- The test decides. Assumes nothing.
use Rattle.bed.specs.Write.{record_check}
use Rattle.bed.proofs.check_bed.Goals as goal

pub returns : goal.returns
unfolding record_check
returns c = rw (c.demand.ensures, c.record_fits.ensures)
