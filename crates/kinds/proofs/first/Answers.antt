-- Past the end a byte reads as 0. Assumes nothing.
use Rattle.kinds.proofs.SpellLaws.{first_none}
use Rattle.kinds.proofs.first.Goals as goal

pub returns-else-word-gt0 : goal.returns-else-word-gt0
returns-else-word-gt0 c = search first_none
