-- Refused, or accepted with a count. Assumes nothing.
use Rattle.entries.proofs.EntryLaws.{check_chain_refused, check_chain_accepted}
use Rattle.entries.proofs.check_chain.Goals as goal

pub returns-in-Err : goal.returns-in-Err
returns-in-Err c = search check_chain_refused

pub returns-in-Ok : goal.returns-in-Ok
returns-in-Ok c = search check_chain_accepted
