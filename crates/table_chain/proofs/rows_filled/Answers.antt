-- An accepted chain fills as many rows as it has blocks. Assumes nothing.
use Rattle.table_chain.proofs.RowLaws.{filled_accepted}
use Rattle.table_chain.proofs.rows_filled.Goals as goal

pub returns-in-Ok : goal.returns-in-Ok
returns-in-Ok c = search filled_accepted
