-- What follows the letter decides. Assumes nothing.
use Rattle.cases.proofs.CaseLaws.{letter_told, letter_none}
use Rattle.cases.proofs.letter_of.Goals as goal

pub returns-then-line-byte_at : goal.returns-then-line-byte_at
returns-then-line-byte_at c = search letter_told

pub returns : goal.returns
returns c = search letter_none
