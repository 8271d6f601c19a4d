-- The checks in their order, each read off the definition. Assumes nothing.
use Rattle.std.proofs.lemmas.Result.{err_from_is_err_and}
use Rattle.numbers.proofs.ListLaws.{ends}
use Rattle.numbers.proofs.end_list.Goals as goal

pub returns-then-open_end : goal.returns-then-open_end
returns-then-open_end c = search (ends, c.in_ok-m.was)

pub returns-then-m-count : goal.returns-then-m-count
returns-then-m-count c = search (ends, c.in_ok-m.was)

pub returns-in_err-m : goal.returns-in_err-m
returns-in_err-m c =
    let p = err_from_is_err_and c.from_residual.result c.from_residual.ensures.1 in
    rw (p.1, p.2) (search (ends, c.in_err-m.was))

pub returns : goal.returns
returns c = search (ends, c.in_ok-m.was)
