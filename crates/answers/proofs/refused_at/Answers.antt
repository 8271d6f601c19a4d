-- The code of the refusal that was made. Assumes nothing.
use Rattle.answers.proofs.AnswerLaws.{code_of}
use Rattle.answers.proofs.refused_at.Goals as goal

pub returns : goal.returns
returns c = search code_of
