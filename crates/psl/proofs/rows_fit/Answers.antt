-- Each side by one test. Assumes nothing.
use Rattle.psl.specs.Rows.{rows_fit}
use Rattle.psl.proofs.rows_fit.Goals as goal

pub returns : goal.returns
unfolding rows_fit
returns c = rw (c.blocks_fill.ensures, c.blocks_fill-2.ensures, c.strand_start-first.ensures, c.strand_end-last.ensures)
