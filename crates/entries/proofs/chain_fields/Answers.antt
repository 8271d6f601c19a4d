-- The numbers one after the other. Assumes nothing.
use Rattle.entries.specs.Records.{chain_numbers}
use Rattle.entries.proofs.chain_fields.Goals as goal

pub returns : goal.returns
unfolding chain_numbers
returns c = rw c.letter-letter.ensures
