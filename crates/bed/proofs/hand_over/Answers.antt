-- The answer as it is, or the rows. Assumes nothing.
use Rattle.std.proofs.lemmas.Result.{err_from_is_err_and}
use Rattle.bed.proofs.StoreLaws.{hand_fault, hand_ready, hand_stored}
use Rattle.bed.proofs.hand_over.Goals as goal

pub store_rows-requires : goal.store_rows-requires
store_rows-requires c = search (hand_ready, c.in_ok-r.was)

pub returns-in_err-r : goal.returns-in_err-r
returns-in_err-r c =
    let p = err_from_is_err_and c.from_residual.result c.from_residual.ensures.1 in
    rw (p.1, p.2) (search (hand_fault, c.in_err-r.was))

pub returns : goal.returns
returns c = search (hand_stored, c.in_ok-r.was)
