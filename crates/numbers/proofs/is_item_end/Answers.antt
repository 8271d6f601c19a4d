-- The word's end, or a comma. Assumes nothing.
use Rattle.numbers.proofs.is_item_end.Goals as goal

pub returns : goal.returns
returns c = rw c.byte_at.ensures
