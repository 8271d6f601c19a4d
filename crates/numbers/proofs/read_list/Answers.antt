-- A fault leaves the table; a list that ends well is walked again, now into the table. Assumes nothing.
use Rattle.std.proofs.lemmas.Result.{err_from_is_err_and}
use Rattle.numbers.proofs.ListLaws.{read_bad, read_good}
use Rattle.numbers.proofs.read_list.Goals as goal

pub returns-in_err-end_list : goal.returns-in_err-end_list
returns-in_err-end_list c =
    let p = err_from_is_err_and c.from_residual.result c.from_residual.ensures.1 in
    rw (p.1, p.2) (search (read_bad, c.in_err-end_list.was))

pub returns : goal.returns
returns c = search (read_good, c.in_ok-end_list.was)
