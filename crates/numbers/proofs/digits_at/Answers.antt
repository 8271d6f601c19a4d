-- Past the end, as many as are asked for, or as many as are left. Assumes nothing.
use Rattle.numbers.proofs.DigitLaws.{digits_none, digits_asked, digits_left}
use Rattle.numbers.proofs.digits_at.Goals as goal

pub returns-then-text-from : goal.returns-then-text-from
returns-then-text-from c = search digits_none

pub returns-then-short-left : goal.returns-then-short-left
returns-then-short-left c = search digits_asked

pub returns : goal.returns
returns c = search digits_left
