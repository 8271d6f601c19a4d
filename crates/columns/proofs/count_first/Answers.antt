-- The count's refusal, or what was found. Assumes nothing.
use Rattle.std.proofs.lemmas.Result.{err_from_is_err_and}
use Rattle.columns.proofs.OneLineLaws.{first_refused, first_good}
use Rattle.columns.proofs.count_first.Goals as goal

pub returns-in_err-check_count : goal.returns-in_err-check_count
returns-in_err-check_count c =
    let p = err_from_is_err_and c.from_residual.result c.from_residual.ensures.1 in
    rw (p.1, p.2) (search (first_refused, first_good, c.in_err-check_count.was))

pub returns : goal.returns
returns c = search (first_refused, first_good, c.in_ok-check_count.was)
