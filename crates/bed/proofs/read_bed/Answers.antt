-- The rows that were stored, and the record, or the fault as its caller is told. Assumes nothing.
use Rattle.std.proofs.lemmas.Result.{err_from_is_err_and}
use Rattle.bed.proofs.StoreLaws.{record_told, fault_told}
use Rattle.bed.proofs.read_bed.Goals as goal

pub returns-in_err-read_any : goal.returns-in_err-read_any
returns-in_err-read_any c =
    let p = err_from_is_err_and c.from_residual.result c.from_residual.ensures.1 in
    rw (p.1, p.2) (fault_told _ _ _ _ _ _ _ _ _ c.read_any.ensures c.in_err-read_any.was)

pub returns : goal.returns
returns c = record_told _ _ _ _ _ _ _ _ _ c.read_any.ensures c.in_ok-read_any.was
