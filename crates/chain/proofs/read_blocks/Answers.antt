-- The checks, then the rows. Assumes nothing.
use Rattle.std.proofs.lemmas.Result.{err_from_is_err_and}
use Rattle.chain.proofs.StageLaws.{read_faulty, read_staged, read_stored}
use Rattle.chain.proofs.read_blocks.Goals as goal

pub store_rows-requires : goal.store_rows-requires
store_rows-requires c = search (read_staged, c.in_ok-r.was)

pub returns-in_err-r : goal.returns-in_err-r
returns-in_err-r c =
    let p = err_from_is_err_and c.from_residual.result c.from_residual.ensures.1 in
    rw (p.1, p.2) (search (read_faulty, c.in_err-r.was))

pub returns : goal.returns
returns c = search (read_stored, c.in_ok-r.was)
