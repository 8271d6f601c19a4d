-- The test, then the step. Assumes nothing.
use Rattle.lift.proofs.AcceptLaws.{ready_if}
use Rattle.region.proofs.TallyLaws.{step_not_accepted, step_ready_lem}
use Rattle.region.proofs.tally_step.Goals as goal

pub returns-then-not-is_accepted : goal.returns-then-not-is_accepted
returns-then-not-is_accepted c = search step_not_accepted

pub region_reach-r-requires : goal.region_reach-r-requires
region_reach-r-requires c = search ready_if

pub returns : goal.returns
returns c = search step_ready_lem
