-- Too little room, or all of it written. Assumes nothing.
use Rattle.answers.proofs.AnswerLaws.{numbers_short, numbers_put}
use Rattle.answers.proofs.answer_numbers.Goals as goal

pub returns-then-out-vs : goal.returns-then-out-vs
returns-then-out-vs c = search numbers_short

pub returns : goal.returns
returns c = search numbers_put
