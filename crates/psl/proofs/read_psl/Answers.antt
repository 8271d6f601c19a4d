-- What was read, as it is told. Assumes nothing.
use Rattle.std.proofs.lemmas.Result.{err_from_is_err_and}
use Rattle.psl.proofs.AnswerLaws.{told_ok, told_fault}
use Rattle.psl.proofs.StoreLaws.{read_told}
use Rattle.psl.proofs.read_psl.Goals as goal

pub returns-in_err-read_rows : goal.returns-in_err-read_rows
returns-in_err-read_rows c =
    let p = err_from_is_err_and c.from_residual.result c.from_residual.ensures.1 in
    rw (p.1, p.2) (search (read_told, told_fault, c.in_err-read_rows.was))

pub returns : goal.returns
returns c = search (read_told, told_ok, c.in_ok-read_rows.was)
