-- The table's columns are BED's first n, and what they hold gives the record and its blocks. Assumes nothing.
use Rattle.std.proofs.lemmas.Result.{err_from_is_err_and}
use Rattle.bed.specs.Table.{bed_columns}
use Rattle.bed.proofs.ColumnLaws.{words_few, words_length, words_listed, words_line, words_stop, words_on}
use Rattle.bed.proofs.after_words.Goals as goal

pub slice_bounds-table-end : goal.slice_bounds-table-end
unfolding bed_columns
slice_bounds-table-end c = search words_few

pub slice_bounds-walk_line-end : goal.slice_bounds-walk_line-end
unfolding bed_columns
slice_bounds-walk_line-end c = search words_length

pub after_columns-requires : goal.after_columns-requires
unfolding bed_columns
after_columns-requires c = (search (words_listed, c.in_ok-e.was), search (words_line, c.in_ok-e.was))

pub returns-in_err-e : goal.returns-in_err-e
unfolding bed_columns
returns-in_err-e c =
    let p = err_from_is_err_and c.from_residual.result c.from_residual.ensures.1 in
    rw (p.1, p.2) (search (words_stop, c.in_err-e.was))

pub returns : goal.returns
unfolding bed_columns
returns c = search (words_on, c.in_ok-e.was)
