-- Refused, all stored, or too little room. Assumes nothing.
use Rattle.std.proofs.lemmas.Result.{err_from_is_err_and}
use Rattle.number_line.proofs.ReadLaws.{tested_bad, tested_read, tested_full}
use Rattle.number_line.proofs.read_tested.Goals as goal

pub returns-in_err-n : goal.returns-in_err-n
returns-in_err-n c =
    let p = err_from_is_err_and c.from_residual.result c.from_residual.ensures.1 in
    rw (p.1, p.2) (search (tested_bad, c.in_err-n.was))

pub returns-then-numbers_fit : goal.returns-then-numbers_fit
returns-then-numbers_fit c = search (tested_read, c.in_ok-n.was)

pub returns : goal.returns
returns c = search (tested_full, c.in_ok-n.was)
