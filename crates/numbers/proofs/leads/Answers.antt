-- No digit, or some. Assumes nothing.
use Rattle.numbers.proofs.DigitLaws.{led_none, led_some}
use Rattle.numbers.proofs.leads.Goals as goal

pub returns-then-n-eq0 : goal.returns-then-n-eq0
returns-then-n-eq0 c = search led_none

pub returns : goal.returns
returns c = search led_some
