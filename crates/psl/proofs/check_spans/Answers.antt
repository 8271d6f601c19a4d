-- The two tests in the ledger's order, the last one innermost. Assumes nothing.
use Rattle.psl.specs.Read.{span_check}
use Rattle.psl.proofs.check_spans.Goals as goal

pub returns : goal.returns
unfolding span_check
returns c = rw (
  c.require.ensures,
  c.span_fits-2.ensures,
  c.require-last.ensures,
  c.span_fits.ensures,
  c.place_of-target_end.ensures,
  c.place_of-query_end.ensures,
)
