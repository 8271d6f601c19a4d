-- Storing the rest of the sizes from here on completes storing all of them. Assumes nothing.
use Rattle.turn.specs.Turns.{size_at}
use Rattle.turn.proofs.FillLaws.{Filled}
use Rattle.turn.proofs.fill_sizes.Given as goal

abbrev pub invariant-loop-i : goal.invariant-loop-i
invariant-loop-i l = Filled (size_at l.k l.n l.sizes) l.n l.i l.initial.y-items l.y-items
