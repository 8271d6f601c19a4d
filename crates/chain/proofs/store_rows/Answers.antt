-- The room decides; the rows stand one column after the other. Assumes nothing.
use Rattle.chain.proofs.StageLaws.{store_short, store_all}
use Rattle.chain.proofs.store_rows.Goals as goal

pub returns-then-room-count : goal.returns-then-room-count
returns-then-room-count c = search store_short

pub returns : goal.returns
returns c =
    store_all _ _ _ _ _ _ c.requires _ c.rows_of-room.ensures _ _ _ c.if-room-count.false c.copy_numbers.ensures c.copy_numbers-2.ensures c.copy_numbers-3.ensures
