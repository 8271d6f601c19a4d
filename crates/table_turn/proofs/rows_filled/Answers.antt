-- A turned chain fills as many rows as it has blocks. Assumes nothing.
use Rattle.table_turn.proofs.RowLaws.{filled_turned}
use Rattle.table_turn.proofs.rows_filled.Goals as goal

pub returns-in-Ok : goal.returns-in-Ok
returns-in-Ok c = search filled_turned
