-- From the highest byte down. Assumes nothing.
use Rattle.binary.proofs.ByteLaws.{Reading}
use Rattle.binary.proofs.low_at.Given as goal

abbrev pub invariant-loop-left : goal.invariant-loop-left
invariant-loop-left l = Reading l.bytes l.at l.most l.left l.n
