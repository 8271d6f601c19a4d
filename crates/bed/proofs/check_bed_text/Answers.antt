-- The record, or the fault as its caller is told. Assumes nothing.
use Rattle.std.proofs.lemmas.Result.{err_from_is_err_and}
use Rattle.bed.proofs.ReadLaws.{checked_read, checked_fault}
use Rattle.bed.proofs.check_bed_text.Goals as goal

pub returns-in_err-check_any : goal.returns-in_err-check_any
returns-in_err-check_any c =
    let p = err_from_is_err_and c.from_residual.result c.from_residual.ensures.1 in
    rw (p.1, p.2) (search (checked_fault, c.in_err-check_any.was))

pub returns : goal.returns
returns c = search (checked_read, c.in_ok-check_any.was)
