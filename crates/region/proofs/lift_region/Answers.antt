-- The test fails, or the rows are ready. Assumes nothing.
use Rattle.lift.proofs.AcceptLaws.{ready_if}
use Rattle.region.proofs.RegionLaws.{region_not_accepted}
use Rattle.region.proofs.lift_region.Goals as goal

pub returns-then-not-is_accepted : goal.returns-then-not-is_accepted
returns-then-not-is_accepted c = search region_not_accepted

pub lift_ready-requires : goal.lift_ready-requires
lift_ready-requires c = search ready_if
