-- The items are stored in a part of the table, and the list is ended. Assumes nothing.
use Rattle.kinds.proofs.SpellLaws.{list_spelled}
use Rattle.kinds.proofs.list_word.Goals as goal

pub returns : goal.returns
returns c = search list_spelled
