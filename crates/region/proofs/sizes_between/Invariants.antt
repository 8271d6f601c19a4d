-- The sizes up to block k are summed. Assumes nothing.
use Rattle.region.specs.Searches.{SizesFrom}
use Rattle.region.proofs.sizes_between.Given as goal

abbrev pub invariant-loop-k : goal.invariant-loop-k
invariant-loop-k l = SizesFrom l.sizes l.i l.k l.sum
