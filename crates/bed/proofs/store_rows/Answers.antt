-- The room decides; the rows are the starts moved up, the sums, and the sizes. Assumes nothing.
use Rattle.bed.proofs.StoreLaws.{store_short, store_rows}
use Rattle.bed.proofs.store_rows.Goals as goal

pub returns-then-room-count : goal.returns-then-room-count
returns-then-room-count c = search store_short

pub returns : goal.returns
returns c =
    store_rows _ _ _ _ _ _ _ c.requires _ c.rows_of-room.ensures _ _ _ c.if-room-count.false c.put_shifted.ensures c.put_sums.ensures c.copy_numbers.ensures
