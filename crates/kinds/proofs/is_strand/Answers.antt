-- The test is the definition, at the first byte. Assumes nothing.
use Rattle.kinds.proofs.is_strand.Goals as goal

pub returns : goal.returns
returns c = rw c.first-b.ensures
