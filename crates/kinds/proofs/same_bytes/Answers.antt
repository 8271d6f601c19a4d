-- Slices are equal where their bytes are, each with its own. Assumes nothing.
use Rattle.kinds.proofs.SpellLaws.{same_each}
use Rattle.kinds.proofs.same_bytes.Goals as goal

pub returns : goal.returns
returns c = search same_each
