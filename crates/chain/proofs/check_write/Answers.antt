-- The tests in the writers' order. Assumes nothing.
use Rattle.chain.specs.Write.{write_check}
use Rattle.chain.proofs.check_write.Goals as goal

pub returns : goal.returns
unfolding write_check
returns c = rw (c.demand.ensures, c.count_fits.ensures, c.demand-words.ensures, c.is_told.ensures, c.names_show.ensures, c.demand-numbers.ensures, c.row_numbers_fit.ensures, c.fields_fit.ensures, c.demand-spans.ensures, c.spans_fit.ensures, c.demand-blocks.ensures, c.rows_fit.ensures, c.rows_of-rows.ensures)
