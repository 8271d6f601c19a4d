-- Refused, or the standard text of the turned record. Assumes nothing.
use Rattle.entries.proofs.TurnLaws.{turned_wide, turned_written, turned_refused}
use Rattle.entries.proofs.write_turned.Goals as goal

pub write_chain-requires : goal.write_chain-requires
write_chain-requires c = search turned_wide

pub returns-in-Err : goal.returns-in-Err
returns-in-Err c = search turned_refused

pub returns-in-Ok : goal.returns-in-Ok
returns-in-Ok c = search turned_written
