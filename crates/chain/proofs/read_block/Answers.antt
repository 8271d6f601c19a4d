-- The number of words decides, and the numbers go on. Assumes nothing.
use Rattle.std.proofs.lemmas.Result.{err_from_is_err_and}
use Rattle.chain.proofs.BlockLaws.{line_counted, line_refused, line_read_lem}
use Rattle.chain.proofs.read_block.Goals as goal

pub read_numbers-requires : goal.read_numbers-requires
read_numbers-requires c = search (line_counted, c.in_ok-check_line.was)

pub returns-in_err-check_line : goal.returns-in_err-check_line
returns-in_err-check_line c =
    let p = err_from_is_err_and c.from_residual.result c.from_residual.ensures.1 in
    rw (p.1, p.2) (search (line_refused, c.in_err-check_line.was))

pub returns : goal.returns
returns c = search (line_read_lem, c.in_ok-check_line.was)
