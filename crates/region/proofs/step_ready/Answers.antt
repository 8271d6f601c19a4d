-- Refused, or grown by its reach. Assumes nothing.
use Rattle.region.proofs.TallyLaws.{step_order, step_growable, step_stays, step_grows}
use Rattle.region.proofs.step_ready.Goals as goal

pub overflow_sub-end : goal.overflow_sub-end
overflow_sub-end c = search step_order

pub grow-requires : goal.grow-requires
grow-requires c = search step_growable

pub returns-in-Err : goal.returns-in-Err
returns-in-Err c = search step_stays

pub returns-in-Ok : goal.returns-in-Ok
returns-in-Ok c = search step_grows
