-- The rows are those of the text. Assumes nothing.
use Rattle.lift.proofs.TextLaws.{rows_count, rows_ready}
use Rattle.region.proofs.ByteLaws.{rows_put}
use Rattle.region.proofs.put_text.Goals as goal

pub slice_bounds-put_ready-end : goal.slice_bounds-put_ready-end
slice_bounds-put_ready-end c = search rows_count

pub put_ready-requires : goal.put_ready-requires
put_ready-requires c = search rows_ready

pub returns : goal.returns
returns c = search rows_put
