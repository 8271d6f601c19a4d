-- Misspelt, good, or out of range. Assumes nothing.
use Rattle.numbers.proofs.DigitLaws.{judged_misspelt, judged_good, judged_range}
use Rattle.numbers.proofs.judge.Goals as goal

pub returns-then-not-leads : goal.returns-then-not-leads
returns-then-not-leads c = search judged_misspelt

pub returns-then-least-v : goal.returns-then-least-v
returns-then-least-v c = search judged_good

pub returns : goal.returns
returns c = search judged_range
