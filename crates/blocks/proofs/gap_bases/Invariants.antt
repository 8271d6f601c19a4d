-- The bases of the gaps so far and of those after the last block seen come to the bases of all. Assumes nothing.
use Prim.Native.Nat.{◌+◌, ◌≤◌}
use mathlib.Core.Path.{◌≡◌}
use Rattle.std.specs.Iterator.Adapters.{zip_first, zip_second}
use Rattle.std.specs.Slice.Iter.{iter_rest}
use lib.ListN.{take}
use Rattle.ledger.specs.Limits.{largest_number}
use Rattle.blocks.specs.Blocks.{capped, gap_bases, bases_from}
use Rattle.blocks.proofs.gap_bases.Given as goal

abbrev pub invariant-loop-x : goal.invariant-loop-x
invariant-loop-x l = (l.bases ≤ largest_number) × (capped (l.bases + bases_from l.s l.z (iter_rest (zip_first l.x-iterator)) (iter_rest (zip_second l.x-iterator))) ≡ capped (gap_bases (take l.count l.starts) (take l.count l.sizes)))
