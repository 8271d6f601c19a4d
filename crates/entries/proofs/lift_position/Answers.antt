-- A chain's text, then the lift. Assumes nothing.
use Rattle.entries.proofs.LiftLaws.{position_refused, position_lifted_lem}
use Rattle.entries.proofs.lift_position.Goals as goal

pub returns-in-Err : goal.returns-in-Err
returns-in-Err c = search position_refused

pub returns-in-Ok : goal.returns-in-Ok
returns-in-Ok c = search position_lifted_lem
