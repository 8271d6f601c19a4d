-- Each test by its own function. Assumes nothing.
use Rattle.bed.specs.Tests.{names_fit}
use Rattle.bed.proofs.names_fit.Goals as goal

pub returns : goal.returns
unfolding names_fit
returns c = rw (c.length_fits.ensures, c.if_there.ensures, c.length_fits-2.ensures)
