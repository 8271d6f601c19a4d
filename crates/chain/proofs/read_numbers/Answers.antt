-- The table's columns are a block line's first n. Assumes nothing.
use Rattle.std.proofs.lemmas.Result.{err_from_is_err_and}
use Rattle.chain.proofs.BlockLaws.{numbers_few, numbers_length, numbers_refused, numbers_read_lem}
use Rattle.chain.proofs.read_numbers.Goals as goal

pub slice_bounds-table-end : goal.slice_bounds-table-end
slice_bounds-table-end c = search numbers_few

pub slice_bounds-walk_line-end : goal.slice_bounds-walk_line-end
slice_bounds-walk_line-end c = search numbers_length

pub returns-in_err-walk_line : goal.returns-in_err-walk_line
returns-in_err-walk_line c =
    let p = err_from_is_err_and c.from_residual.result c.from_residual.ensures.1 in
    rw (p.1, p.2) (search (numbers_refused, c.in_err-walk_line.was))

pub returns : goal.returns
returns c = search (numbers_read_lem, c.in_ok-walk_line.was)
