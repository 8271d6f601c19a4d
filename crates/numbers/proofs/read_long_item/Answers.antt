-- The item is what stands before the next comma. Assumes nothing.
use Rattle.numbers.proofs.ItemLaws.{piece_found}
use Rattle.numbers.proofs.read_long_item.Goals as goal

pub returns : goal.returns
returns c = search piece_found
