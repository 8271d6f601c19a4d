-- A chain's text, then the lift. Assumes nothing.
use Rattle.entries.proofs.LiftLaws.{region_refused, region_lifted_lem}
use Rattle.entries.proofs.lift_region.Goals as goal

pub returns-in-Err : goal.returns-in-Err
returns-in-Err c = search region_refused

pub returns-in-Ok : goal.returns-in-Ok
returns-in-Ok c = search region_lifted_lem
