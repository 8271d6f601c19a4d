-- The tests in their order. Assumes nothing.
use Rattle.psl.specs.Write.{write_check}
use Rattle.psl.proofs.check_write.Goals as goal

pub returns : goal.returns
unfolding write_check
returns c = rw (c.demand.ensures, c.count_fits.ensures, c.demand-words.ensures, c.words_show.ensures, c.check_numbers-numbers.ensures, c.rows_of-rows.ensures)
