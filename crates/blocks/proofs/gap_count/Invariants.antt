-- The gaps so far and those after the last block seen are all of them. Assumes nothing.
use Prim.Native.Nat.{◌+◌, ◌<◌}
use mathlib.Core.Path.{◌≡◌}
use Rattle.std.specs.Iterator.Adapters.{zip_first, zip_second}
use Rattle.std.specs.Slice.Iter.{iter_rest}
use lib.ListN.{take, length}
use Rattle.blocks.specs.Blocks.{gap_count, gaps_from}
use Rattle.blocks.proofs.gap_count.Given as goal

abbrev pub invariant-loop-x : goal.invariant-loop-x
invariant-loop-x l = (l.gaps + length (iter_rest (zip_first l.x-iterator)) < l.n) × (l.gaps + gaps_from l.s l.z (iter_rest (zip_first l.x-iterator)) (iter_rest (zip_second l.x-iterator)) ≡ gap_count (take l.count l.starts) (take l.count l.sizes))
