-- Storing the rest of the starts from here on completes storing all of them. Assumes nothing.
use Rattle.turn.specs.Turns.{start_at}
use Rattle.turn.proofs.FillLaws.{Filled}
use Rattle.turn.proofs.fill_starts.Given as goal

abbrev pub invariant-loop-i : goal.invariant-loop-i
invariant-loop-i l = Filled (start_at l.k l.size l.n l.starts l.sizes) l.n l.i l.initial.y-items l.y-items
