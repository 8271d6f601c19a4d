-- The digits end the item, or it is found first. Assumes nothing.
use Rattle.numbers.proofs.ItemLaws.{piece_short}
use Rattle.numbers.proofs.read_item.Goals as goal

pub returns : goal.returns
returns c = search piece_short
