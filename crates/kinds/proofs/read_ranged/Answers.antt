-- The range's two values, handed on. Assumes nothing.
use Rattle.kinds.proofs.SpellLaws.{ranged_read}
use Rattle.kinds.proofs.read_ranged.Goals as goal

pub returns : goal.returns
returns c = search ranged_read
