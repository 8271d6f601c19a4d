-- All tests. Assumes nothing.
use Rattle.chain.specs.Tests.{chain_valid}
use Rattle.chain.proofs.record_fits.Goals as goal

pub returns : goal.returns
unfolding chain_valid
returns c = rw (c.count_fits.ensures, c.names_fit.ensures, c.is_told.ensures, c.fields_fit.ensures, c.row_numbers_fit.ensures, c.spans_fit.ensures, c.rows_fit.ensures, c.rows_of-rows.ensures)
