use Rattle.lift.proofs.PositionLaws.{drift_fits, drift_is}
use Rattle.lift.proofs.drift_of.Goals as goal

pub overflow_sub-result : goal.overflow_sub-result
overflow_sub-result c = search drift_fits

pub returns : goal.returns
returns c = search drift_is
