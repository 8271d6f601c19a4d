-- The tests in their order, the last one innermost. Assumes nothing.
use Rattle.bed.specs.Write.{write_check}
use Rattle.bed.proofs.check_write.Goals as goal

pub returns : goal.returns
unfolding write_check
returns c = rw (
  c.demand.ensures,
  c.count_fits.ensures,
  c.demand-words.ensures,
  c.strand_fits.ensures,
  c.names_show.ensures,
  c.demand-numbers.ensures,
  c.row_numbers_fit.ensures,
  c.fields_fit.ensures,
  c.demand-spans.ensures,
  c.spans_fit.ensures,
  c.demand-blocks.ensures,
  c.rows_fit.ensures,
  c.rows_of-rows.ensures,
)
