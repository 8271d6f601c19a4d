-- What the stages found, as it is told. Assumes nothing.
use Rattle.std.proofs.lemmas.Result.{err_from_is_err_and}
use Rattle.psl.proofs.AnswerLaws.{told_ok, told_fault}
use Rattle.psl.proofs.ReadLaws.{text_checked}
use Rattle.psl.proofs.check_psl_text.Goals as goal

pub returns-in_err-stage : goal.returns-in_err-stage
returns-in_err-stage c =
    let p = err_from_is_err_and c.from_residual.result c.from_residual.ensures.1 in
    rw (p.1, p.2) (search (text_checked, told_fault, c.in_err-stage.was))

pub returns : goal.returns
returns c = search (text_checked, told_ok, c.in_ok-stage.was)
