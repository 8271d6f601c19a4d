-- The first walk stores nothing and gives the answer; where it is good, the second walk stores. Assumes nothing.
use Rattle.std.proofs.lemmas.Result.{err_from_is_err_and}
use Rattle.columns.proofs.ReadLaws.{front_length, front_few, read_refused, read_walked}
use Rattle.columns.proofs.read_columns.Goals as goal

pub slice_bounds-walk_columns-end : goal.slice_bounds-walk_columns-end
slice_bounds-walk_columns-end c = search front_length

pub walk_columns-requires : goal.walk_columns-requires
walk_columns-requires c = search front_few

pub slice_bounds-walk_columns-end-2 : goal.slice_bounds-walk_columns-end-2
slice_bounds-walk_columns-end-2 c = search front_length

pub walk_columns-requires-2 : goal.walk_columns-requires-2
walk_columns-requires-2 c = search front_few

pub returns-in_err-walk_columns : goal.returns-in_err-walk_columns
returns-in_err-walk_columns c =
    let p = err_from_is_err_and c.from_residual.result c.from_residual.ensures.1 in
    rw (p.1, p.2) (search (read_refused, c.in_err-walk_columns.was))

pub returns : goal.returns
returns c = search (read_walked, c.in_ok-walk_columns.was)
