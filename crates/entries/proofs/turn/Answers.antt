-- A chain's text, then the turn. Assumes nothing.
use Rattle.entries.specs.Entries.{turned_text}
use Rattle.entries.proofs.EntryLaws.{chain_refused, chain_wide}
use Rattle.entries.proofs.TurnLaws.{turn_answered}
use Rattle.entries.proofs.turn.Goals as goal

pub write_turned-requires : goal.write_turned-requires
write_turned-requires c = search chain_wide

pub returns-in-Err : goal.returns-in-Err
unfolding turned_text
returns-in-Err c = search chain_refused

pub returns-in-Ok : goal.returns-in-Ok
returns-in-Ok c = search turn_answered
