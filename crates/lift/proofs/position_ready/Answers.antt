-- Each way out is one of the definition. Assumes nothing.
use Rattle.lift.proofs.PositionLaws.{past_target, by_partner, small_target, small_query, lift_at, lift_none}
use Rattle.lift.proofs.position_ready.Goals as goal

pub returns-then-c-p : goal.returns-then-c-p
returns-then-c-p c = search past_target

pub drift_of-requires : goal.drift_of-requires
drift_of-requires c = (search small_target, search small_query)

pub returns-in-Some : goal.returns-in-Some
returns-in-Some c = search (by_partner, lift_at)

pub returns-in-None : goal.returns-in-None
returns-in-None c = search (by_partner, lift_none)
