-- Each check decides, and the next stage goes on. Assumes nothing.
use Rattle.std.proofs.lemmas.Result.{err_from_is_err_and}
use Rattle.bed.proofs.ColumnLaws.{check_stop, check_on}
use Rattle.bed.proofs.stage.Goals as goal

pub returns-in_err-check_text : goal.returns-in_err-check_text
returns-in_err-check_text c =
    let p = err_from_is_err_and c.from_residual.result c.from_residual.ensures.1 in
    rw (p.1, p.2) (search (check_stop, c.in_err-check_text.was))

pub returns-then-text-gt-LONG : goal.returns-then-text-gt-LONG
returns-then-text-gt-LONG c = search (check_on, c.in_ok-check_text.was)

pub returns : goal.returns
returns c = search (check_on, c.in_ok-check_text.was)
