-- The room decides; the rows are the three lists of the working room. Assumes nothing.
use Rattle.psl.proofs.StoreLaws.{rows_short, rows_stored}
use Rattle.psl.proofs.store_rows.Goals as goal

pub returns-then-room-count : goal.returns-then-room-count
returns-then-room-count c = search rows_short

pub returns : goal.returns
returns c = search rows_stored
