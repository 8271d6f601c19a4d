-- The rows are those of the text. Assumes nothing.
use Rattle.lift.proofs.TextLaws.{rows_count, rows_ready, rows_lifted}
use Rattle.lift.proofs.position_rows.Goals as goal

pub slice_bounds-position_ready-end : goal.slice_bounds-position_ready-end
slice_bounds-position_ready-end c = search rows_count

pub position_ready-requires : goal.position_ready-requires
position_ready-requires c = search rows_ready

pub returns : goal.returns
returns c = search rows_lifted
