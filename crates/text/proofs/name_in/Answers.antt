-- `text::name_in` meets its contract: the part found lies in the text, so that cutting it out is safe. Assumes nothing.
use Rattle.text.proofs.Laws.{part_cut}
use Rattle.text.proofs.name_in.Goals as goal

pub returns : goal.returns
returns c = search part_cut
