-- One walk by the first table of the table. Assumes nothing.
use Rattle.columns.proofs.ReadLaws.{front_length, front_few, walked_line}
use Rattle.columns.proofs.walk_line.Goals as goal

pub slice_bounds-walk_columns-end : goal.slice_bounds-walk_columns-end
slice_bounds-walk_columns-end c = search front_length

pub walk_columns-requires : goal.walk_columns-requires
walk_columns-requires c = search front_few

pub returns : goal.returns
returns c = search walked_line
