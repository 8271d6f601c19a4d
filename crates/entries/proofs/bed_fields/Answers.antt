-- The numbers one after the other. Assumes nothing.
use Rattle.entries.specs.Records.{bed_numbers}
use Rattle.entries.proofs.bed_fields.Goals as goal

pub returns : goal.returns
unfolding bed_numbers
returns c = rw c.letter-letter.ensures
