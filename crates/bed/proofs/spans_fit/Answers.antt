-- Each test by its own function. Assumes nothing.
use Rattle.bed.specs.Tests.{spans_fit}
use Rattle.bed.proofs.spans_fit.Goals as goal

pub returns : goal.returns
unfolding spans_fit
returns c = rw c.thick_fits.ensures
