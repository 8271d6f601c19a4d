-- The blocks decide. Assumes nothing.
use Rattle.std.proofs.lemmas.Result.{err_from_is_err_and}
use Rattle.chain.proofs.StageLaws.{last_faulty, last_read}
use Rattle.chain.proofs.after_last.Goals as goal

pub returns-in_err-check_fill : goal.returns-in_err-check_fill
returns-in_err-check_fill c =
    let p = err_from_is_err_and c.from_residual.result c.from_residual.ensures.1 in
    rw (p.1, p.2) (search (last_faulty, c.in_err-check_fill.was))

pub returns : goal.returns
returns c = search (last_read, c.in_ok-check_fill.was)
