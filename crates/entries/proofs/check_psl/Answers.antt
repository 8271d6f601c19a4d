-- Refused, or accepted with a count. Assumes nothing.
use Rattle.entries.proofs.EntryLaws.{check_psl_refused, check_psl_accepted}
use Rattle.entries.proofs.check_psl.Goals as goal

pub returns-in-Err : goal.returns-in-Err
returns-in-Err c = search check_psl_refused

pub returns-in-Ok : goal.returns-in-Ok
returns-in-Ok c = search check_psl_accepted
