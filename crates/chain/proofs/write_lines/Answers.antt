-- The text is measured, then written. Assumes nothing.
use Rattle.std.proofs.lemmas.Result.{err_from_is_err_and}
use Rattle.writing.proofs.PutLaws.{write_measured_refused, write_measured_put}
use Rattle.chain.proofs.write_lines.Goals as goal

pub returns-in_err-room_for : goal.returns-in_err-room_for
returns-in_err-room_for c =
    let p = err_from_is_err_and c.from_residual.result c.from_residual.ensures.1 in
    rw (p.1, p.2) (search (write_measured_refused, c.in_err-room_for.was))

pub returns : goal.returns
returns c = search (write_measured_put, c.in_ok-room_for.was)
