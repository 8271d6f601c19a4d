-- The letter's byte. Assumes nothing.
use Rattle.chain.specs.Steps.{chain_values}
use Rattle.chain.proofs.values_of.Goals as goal

pub returns : goal.returns
unfolding chain_values
returns c = rw c.letter-letter.ensures
