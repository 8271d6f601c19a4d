-- The reason's number fits below the place. Assumes nothing.
use Rattle.answers.proofs.AnswerLaws.{code_fits}
use Rattle.answers.proofs.refusal_code.Goals as goal

pub overflow_add-result : goal.overflow_add-result
overflow_add-result c = search code_fits
