-- Each answer is one of the definition. Assumes nothing.
use Rattle.std.proofs.lemmas.Result.{err_from_is_err_and}
use Rattle.columns.proofs.OneLineLaws.{texts}
use Rattle.columns.proofs.walk_text.Goals as goal

pub returns-in_err-check_text : goal.returns-in_err-check_text
returns-in_err-check_text c =
    let p = err_from_is_err_and c.from_residual.result c.from_residual.ensures.1 in
    rw (p.1, p.2) (search (texts, c.in_err-check_text.was))

pub returns-in_err-e : goal.returns-in_err-e
returns-in_err-e c =
    let p = err_from_is_err_and c.from_residual-in_err-e.result c.from_residual-in_err-e.ensures.1 in
    rw (p.1, p.2) (search (texts, c.in_ok-check_text.was, c.in_err-e.was))

pub returns-in_err-check_last_line : goal.returns-in_err-check_last_line
returns-in_err-check_last_line c =
    let p = err_from_is_err_and c.from_residual-in_err-check_last_line.result c.from_residual-in_err-check_last_line.ensures.1 in
    rw (p.1, p.2) (search (texts, c.in_ok-check_text.was, c.in_ok-e.was, c.in_err-check_last_line.was))

pub returns : goal.returns
returns c = search (texts, c.in_ok-check_text.was, c.in_ok-e.was, c.in_ok-check_last_line.was)
