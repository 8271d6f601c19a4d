-- Each column of the rows by one test. Assumes nothing.
use Rattle.blocks.specs.Blocks.{row_numbers_fit}
use Rattle.blocks.proofs.row_numbers_fit.Goals as goal

pub returns : goal.returns
unfolding row_numbers_fit
returns c = rw (c.all_between.ensures, c.all_between-2.ensures, c.all_between-3.ensures)
