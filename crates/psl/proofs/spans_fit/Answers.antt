-- Each side by one test. Assumes nothing.
use Rattle.psl.specs.Tests.{spans_fit}
use Rattle.psl.proofs.spans_fit.Goals as goal

pub returns : goal.returns
unfolding spans_fit
returns c = rw (c.span_fits.ensures, c.span_fits-2.ensures)
