-- The target's span before the query's. Assumes nothing.
use Rattle.chain.specs.Read.{span_check}
use Rattle.chain.proofs.check_spans.Goals as goal

pub returns : goal.returns
unfolding span_check
returns c = rw (c.require.ensures, c.place_of-2.ensures, c.span_fits-2.ensures, c.require-query.ensures, c.place_of.ensures, c.span_fits.ensures)
