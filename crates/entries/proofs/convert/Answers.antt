-- Refused, or two numbers. Assumes nothing.
use Rattle.entries.proofs.EntryLaws.{convert_refused, convert_accepted}
use Rattle.entries.proofs.convert.Goals as goal

pub returns-in-Err : goal.returns-in-Err
returns-in-Err c = search convert_refused

pub returns-in-Ok : goal.returns-in-Ok
returns-in-Ok c = search convert_accepted
