-- The two tests in the ledger's order, the last one innermost. Assumes nothing.
use Rattle.bed.specs.Read.{span_check}
use Rattle.bed.proofs.check_spans.Goals as goal

pub returns : goal.returns
unfolding span_check
returns c = rw (
  c.require.ensures,
  c.require-thick.ensures,
  c.thick_place.ensures,
  c.thick_fits.ensures,
  c.place_of-end.ensures,
)
