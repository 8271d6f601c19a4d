-- Each check decides, and the next stage goes on. Assumes nothing.
use Rattle.std.proofs.lemmas.Result.{err_from_is_err_and}
use Rattle.bed.proofs.ReadLaws.{listed_as, columns_stop, lines_stop, lines_on}
use Rattle.bed.proofs.after_columns.Goals as goal

pub after_spans-requires : goal.after_spans-requires
after_spans-requires c = search listed_as

pub returns-in_err-check_last_line : goal.returns-in_err-check_last_line
returns-in_err-check_last_line c =
    let p = err_from_is_err_and c.from_residual.result c.from_residual.ensures.1 in
    rw (p.1, p.2) (search (columns_stop, c.in_err-check_last_line.was))

pub returns-in_err-check_spans : goal.returns-in_err-check_spans
returns-in_err-check_spans c =
    let p = err_from_is_err_and c.from_residual-in_err-check_spans.result c.from_residual-in_err-check_spans.ensures.1 in
    rw (p.1, p.2) (search (lines_stop, c.in_ok-check_last_line.was, c.in_err-check_spans.was))

pub returns : goal.returns
returns c = search (lines_on, c.in_ok-check_last_line.was, c.in_ok-check_spans.was)
