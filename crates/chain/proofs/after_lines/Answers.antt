-- A surplus line decides, and the next stage goes on. Assumes nothing.
use Rattle.std.proofs.lemmas.Result.{err_from_is_err_and}
use Rattle.chain.proofs.StageLaws.{lines_faulty, lines_on}
use Rattle.chain.proofs.after_lines.Goals as goal

pub returns-in_err-check_last_line : goal.returns-in_err-check_last_line
returns-in_err-check_last_line c =
    let p = err_from_is_err_and c.from_residual.result c.from_residual.ensures.1 in
    rw (p.1, p.2) (search (lines_faulty, c.in_err-check_last_line.was))

pub returns : goal.returns
returns c = search (lines_on, c.in_ok-check_last_line.was)
