use Rattle.region.proofs.BatchLaws.{row_lifted, row_refused}
use Rattle.region.proofs.answer_row.Goals as goal

pub returns-in-Ok : goal.returns-in-Ok
returns-in-Ok c = row_lifted _ _ c.in-Ok.is

pub returns-in-Err : goal.returns-in-Err
returns-in-Err c = search row_refused
