use Rattle.lift.specs.Pairs.{forward_on}
use Rattle.lift.proofs.FindLaws.{Seeking}
use Rattle.lift.proofs.find_partner.Given as goal

abbrev pub invariant-loop-i : goal.invariant-loop-i
invariant-loop-i l = Seeking (forward_on l.k l.size) l.targets l.queries l.sizes l.p l.n l.i
