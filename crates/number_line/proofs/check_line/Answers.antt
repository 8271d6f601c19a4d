-- The walk's refusal, a surplus line, or neither. Assumes nothing.
use Rattle.std.proofs.lemmas.Result.{err_from_is_err_and}
use Rattle.number_line.proofs.ReadLaws.{line_bad, line_surplus, line_good}
use Rattle.number_line.proofs.check_line.Goals as goal

pub returns-in_err-n : goal.returns-in_err-n
returns-in_err-n c =
    let p = err_from_is_err_and c.from_residual.result c.from_residual.ensures.1 in
    rw (p.1, p.2) (search (line_bad, c.in_err-n.was))

pub returns-in_err-check_last_line : goal.returns-in_err-check_last_line
returns-in_err-check_last_line c =
    let p = err_from_is_err_and c.from_residual-in_err-check_last_line.result c.from_residual-in_err-check_last_line.ensures.1 in
    rw (p.1, p.2) (search (line_surplus, c.in_ok-n.was, c.in_err-check_last_line.was))

pub returns : goal.returns
returns c = search (line_good, c.in_ok-n.was, c.in_ok-check_last_line.was)
