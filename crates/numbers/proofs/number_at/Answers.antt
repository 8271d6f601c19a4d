-- The digits at a place, where they end with the word. Assumes nothing.
use Rattle.numbers.proofs.ItemLaws.{number_taken}
use Rattle.numbers.proofs.number_at.Goals as goal

pub returns : goal.returns
returns c = rw c.then_some.ensures (search number_taken)
