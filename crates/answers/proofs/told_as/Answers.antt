-- Over the most that is told, or not. Assumes nothing.
use Rattle.answers.proofs.AnswerLaws.{told_most, told_itself}
use Rattle.answers.proofs.told_as.Goals as goal

pub returns-then-value-gt-MOST_TOLD : goal.returns-then-value-gt-MOST_TOLD
returns-then-value-gt-MOST_TOLD c = search told_most

pub returns : goal.returns
returns c = search told_itself
