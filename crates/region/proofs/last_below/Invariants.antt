-- The place lies from low on, before low + width. Assumes nothing.
use Rattle.region.proofs.SearchLaws.{Halving}
use Rattle.region.proofs.last_below.Given as goal

abbrev pub invariant-loop-width : goal.invariant-loop-width
invariant-loop-width l = Halving l.starts l.n l.p l.low l.width

abbrev pub decreases-loop-width : goal.decreases-loop-width
decreases-loop-width l = l.width
