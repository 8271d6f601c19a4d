-- Each test by its own function. Assumes nothing.
use Rattle.bed.specs.Tests.{rows_fit}
use Rattle.bed.proofs.rows_fit.Goals as goal

pub returns : goal.returns
unfolding rows_fit
returns c = rw (c.if_there.ensures, c.blocks_fill.ensures, c.are_sums.ensures)
