-- Each test by its own function. Assumes nothing.
use Rattle.psl.specs.Write.{words_show}
use Rattle.psl.proofs.words_show.Goals as goal

pub returns : goal.returns
unfolding words_show
returns c = rw (c.length_fits.ensures, c.length_fits-2.ensures, c.is_told.ensures, c.all_graphic.ensures, c.all_graphic-2.ensures)
