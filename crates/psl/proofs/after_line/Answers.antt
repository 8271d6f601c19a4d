-- Each check decides. Assumes nothing.
use Rattle.std.proofs.lemmas.Result.{err_from_is_err_and}
use Rattle.psl.proofs.ReadLaws.{ready_as, spans_stop, rows_stop, line_reads}
use Rattle.psl.proofs.after_line.Goals as goal

pub check_rows-requires : goal.check_rows-requires
check_rows-requires c = search ready_as

pub returns-in_err-check_spans : goal.returns-in_err-check_spans
returns-in_err-check_spans c =
    let p = err_from_is_err_and c.from_residual.result c.from_residual.ensures.1 in
    rw (p.1, p.2) (search (spans_stop, c.in_err-check_spans.was))

pub returns-in_err-check_rows : goal.returns-in_err-check_rows
returns-in_err-check_rows c =
    let p = err_from_is_err_and c.from_residual-in_err-check_rows.result c.from_residual-in_err-check_rows.ensures.1 in
    rw (p.1, p.2) (search (rows_stop, c.in_ok-check_spans.was, c.in_err-check_rows.was))

pub returns : goal.returns
returns c = search (line_reads, c.in_ok-check_spans.was, c.in_ok-check_rows.was)
