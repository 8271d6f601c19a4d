-- The spans decide, and the next stage goes on. Assumes nothing.
use Rattle.std.proofs.lemmas.Result.{err_from_is_err_and}
use Rattle.chain.proofs.StageLaws.{columns_faulty, columns_on}
use Rattle.chain.proofs.after_columns.Goals as goal

pub returns-in_err-check_spans : goal.returns-in_err-check_spans
returns-in_err-check_spans c =
    let p = err_from_is_err_and c.from_residual.result c.from_residual.ensures.1 in
    rw (p.1, p.2) (search (columns_faulty, c.in_err-check_spans.was))

pub returns : goal.returns
returns c = search (columns_on, c.in_ok-check_spans.was)
