-- The columns, then the line feed. Assumes nothing.
use Rattle.columns.proofs.ReadLaws.{front_length, front_few}
use Rattle.columns.proofs.LineLaws.{line_fed}
use Rattle.columns.proofs.put_line.Goals as goal

pub slice_bounds-put_columns-end : goal.slice_bounds-put_columns-end
slice_bounds-put_columns-end c = search front_length

pub put_columns-p-requires : goal.put_columns-p-requires
put_columns-p-requires c = search front_few

pub returns : goal.returns
returns c = search line_fed
