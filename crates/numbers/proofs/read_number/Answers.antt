-- A short word by its digits, a longer one digit by digit. Assumes nothing.
use Rattle.numbers.proofs.DigitLaws.{word_bad, word_digits}
use Rattle.numbers.proofs.read_number.Goals as goal

pub returns-then-d-n : goal.returns-then-d-n
returns-then-d-n c = search word_bad

pub returns : goal.returns
returns c = search word_digits
