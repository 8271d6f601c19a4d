-- The numbers one after the other. Assumes nothing.
use Rattle.entries.specs.Records.{psl_numbers}
use Rattle.entries.proofs.psl_fields.Goals as goal

pub returns : goal.returns
unfolding psl_numbers
returns c = rw c.letter-letter.ensures
