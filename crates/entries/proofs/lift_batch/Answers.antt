-- Refused, or answered with the tally kept. Assumes nothing.
use Rattle.entries.proofs.BatchLaws.{batch_refused, batch_told}
use Rattle.entries.proofs.lift_batch.Goals as goal

pub returns-in-Err : goal.returns-in-Err
returns-in-Err c = search batch_refused

pub returns-in-Ok : goal.returns-in-Ok
returns-in-Ok c = search batch_told
