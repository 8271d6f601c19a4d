-- Each test by its own function. Assumes nothing.
use Rattle.bed.specs.Tests.{bed_valid}
use Rattle.bed.proofs.record_fits.Goals as goal

pub returns : goal.returns
unfolding bed_valid
returns c = rw (
  c.count_fits.ensures,
  c.names_fit.ensures,
  c.strand_fits.ensures,
  c.fields_fit.ensures,
  c.row_numbers_fit.ensures,
  c.spans_fit.ensures,
  c.rows_fit.ensures,
  c.rows_of-rows.ensures,
)
