-- The columns one after the other. Assumes nothing.
use Rattle.bed.specs.Steps.{bed_values}
use Rattle.bed.proofs.values_of.Goals as goal

pub returns : goal.returns
unfolding bed_values
returns c = rw c.letter-letter.ensures
