-- The rest are the sums that go on from the last one seen exactly when all are the sums. Assumes nothing.
use Prim.Native.Nat.{◌+◌}
use mathlib.Core.Path.{◌≡◌}
use Rattle.std.specs.Iterator.Adapters.{zip_first, zip_second}
use Rattle.std.specs.Slice.Iter.{iter_rest}
use lib.ListN.{take, length}
use Rattle.blocks.specs.Blocks.{are_sums}
use Rattle.blocks.proofs.are_sums.Given as goal

abbrev pub invariant-loop-x : goal.invariant-loop-x
invariant-loop-x l = (length (iter_rest (zip_second l.x-iterator)) ≡ length (iter_rest (zip_first l.x-iterator))) × (are_sums (l.q + l.z) (iter_rest (zip_first l.x-iterator)) (iter_rest (zip_second l.x-iterator)) ≡ are_sums 0 (take l.count l.queries) (take l.count l.sizes))
