-- None past the end, else nineteen or as many as are left. Assumes nothing.
use Rattle.numbers.proofs.DigitLaws.{digits_none, digits_short}
use Rattle.numbers.proofs.short_digits.Goals as goal

pub returns-then-text-from : goal.returns-then-text-from
returns-then-text-from c = search digits_none

pub returns : goal.returns
returns c = search digits_short
