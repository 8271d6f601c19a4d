-- The comparison decides. Assumes nothing.
use Rattle.kinds.proofs.SpellLaws.{fixed_read}
use Rattle.kinds.proofs.read_fixed.Goals as goal

pub returns : goal.returns
returns c = search fixed_read
