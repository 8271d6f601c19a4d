-- The test decides, and the letter is the value. Assumes nothing.
use Rattle.kinds.proofs.SpellLaws.{strand_read}
use Rattle.kinds.proofs.read_strand.Goals as goal

pub returns : goal.returns
returns c = search strand_read
