-- Each test by its own function. Assumes nothing.
use Rattle.bed.specs.Write.{names_show}
use Rattle.bed.proofs.names_show.Goals as goal

pub returns : goal.returns
unfolding names_show
returns c = rw (c.names_fit.ensures, c.all_graphic.ensures, c.all_graphic-2.ensures)
