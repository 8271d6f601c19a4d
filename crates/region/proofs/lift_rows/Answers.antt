-- The rows are those of the text. Assumes nothing.
use Rattle.lift.proofs.TextLaws.{rows_count, rows_ready}
use Rattle.region.proofs.TextLaws.{rows_lifted}
use Rattle.region.proofs.lift_rows.Goals as goal

pub slice_bounds-lift_ready-end : goal.slice_bounds-lift_ready-end
slice_bounds-lift_ready-end c = search rows_count

pub lift_ready-requires : goal.lift_ready-requires
lift_ready-requires c = search rows_ready

pub returns : goal.returns
returns c = search rows_lifted
