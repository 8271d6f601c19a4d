-- The number is written without its sign (SignLaws). Assumes nothing.
use Rattle.samples_lift.proofs.SignLaws.{less_fits, less_natural}
use Rattle.samples_lift.proofs.drifts.magnitude.Goals as goal

pub overflow_sub-x : goal.overflow_sub-x
overflow_sub-x c = search less_fits

pub natural-requires-2 : goal.natural-requires-2
natural-requires-2 c = search less_natural
