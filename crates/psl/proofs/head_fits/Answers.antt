-- Each part by its own test. Assumes nothing.
use Rattle.psl.specs.Steps.{head_fits}
use Rattle.psl.proofs.head_fits.Goals as goal

pub returns : goal.returns
unfolding head_fits
returns c = rw (c.count_fits.ensures, c.length_fits.ensures, c.length_fits-2.ensures, c.is_told.ensures, c.fields_fit.ensures)
