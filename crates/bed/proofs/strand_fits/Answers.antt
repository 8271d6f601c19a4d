-- A strand left out is the dot. Assumes nothing.
use Rattle.bed.specs.Tests.{strand_fits}
use Rattle.bed.proofs.strand_fits.Goals as goal

pub returns : goal.returns
unfolding strand_fits
returns c = rw (c.if_there.ensures, c.is_dot.ensures)
