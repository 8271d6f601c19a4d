-- Each part by its own test. Assumes nothing.
use Rattle.psl.specs.Tests.{fields_fit}
use Rattle.psl.proofs.fields_fit.Goals as goal

pub returns : goal.returns
unfolding fields_fit
returns c = rw (c.count_numbers_fit.ensures, c.side_fits.ensures, c.side_fits-2.ensures)
