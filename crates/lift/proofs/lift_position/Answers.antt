-- The test fails, or the rows are ready. Assumes nothing.
use Rattle.lift.proofs.AcceptLaws.{ready_if}
use Rattle.lift.proofs.PositionLaws.{not_accepted}
use Rattle.lift.proofs.lift_position.Goals as goal

pub returns-then-not-is_accepted : goal.returns-then-not-is_accepted
returns-then-not-is_accepted c = search not_accepted

pub position_ready-requires : goal.position_ready-requires
position_ready-requires c = search ready_if
