-- As a caller is told. Assumes nothing.
use Rattle.std.proofs.lemmas.Result.{err_from_is_err_and}
use Rattle.number_line.proofs.ReadLaws.{told_ok, told_fault, check_told}
use Rattle.number_line.proofs.check_numbers.Goals as goal

pub returns-in_err-stage : goal.returns-in_err-stage
returns-in_err-stage c =
    let p = err_from_is_err_and c.from_residual.result c.from_residual.ensures.1 in
    rw (p.1, p.2) (search (check_told, told_fault, c.in_err-stage.was))

pub returns : goal.returns
returns c = search (check_told, told_ok, c.in_ok-stage.was)
