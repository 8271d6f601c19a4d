-- The checks decide; a record that passes them is written. Assumes nothing.
use Rattle.std.proofs.lemmas.Result.{err_from_is_err_and}
use Rattle.bed.proofs.WriteLaws.{write_refused, write_ready, write_wrote}
use Rattle.bed.proofs.write_bed.Goals as goal

pub write_text-requires : goal.write_text-requires
write_text-requires c = search (write_ready, c.in_ok-check_write.was)

pub returns-in_err-check_write : goal.returns-in_err-check_write
returns-in_err-check_write c =
    let p = err_from_is_err_and c.from_residual.result c.from_residual.ensures.1 in
    rw (p.1, p.2) (search (write_refused, c.in_err-check_write.was))

pub returns : goal.returns
returns c = search (write_wrote, c.in_ok-check_write.was)
