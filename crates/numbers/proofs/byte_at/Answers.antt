-- A byte of the word, or none. Assumes nothing.
use Rattle.numbers.proofs.DigitLaws.{byte_none}
use Rattle.numbers.proofs.byte_at.Goals as goal

pub returns-else-i-word : goal.returns-else-i-word
returns-else-i-word c = search byte_none
