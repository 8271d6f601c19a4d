-- The quick way by the first table of the table. Assumes nothing.
use Rattle.columns.proofs.ReadLaws.{front_length, front_few}
use Rattle.columns.proofs.QuickLaws.{quick_line}
use Rattle.columns.proofs.quick_words.Goals as goal

pub slice_bounds-quick_columns-end : goal.slice_bounds-quick_columns-end
slice_bounds-quick_columns-end c = search front_length

pub quick_columns-requires : goal.quick_columns-requires
quick_columns-requires c = search front_few

pub returns : goal.returns
returns c = search quick_line
