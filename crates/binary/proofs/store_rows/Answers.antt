-- Storing the rows that are left makes the whole. Assumes nothing.
use Rattle.binary.proofs.WordLaws.{rows_start, rows_store, rows_stored}
use Rattle.binary.proofs.store_rows.Goals as goal

pub loop-i-init : goal.loop-i-init
loop-i-init c = search rows_start

pub loop-i-preserved : goal.loop-i-preserved
loop-i-preserved c = search rows_store

pub returns : goal.returns
returns c = search rows_stored
