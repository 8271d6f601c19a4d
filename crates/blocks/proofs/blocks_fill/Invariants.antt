-- The rule for the blocks from here on, after the last one seen, is the rule for all of them. Assumes nothing.
use mathlib.Core.Path.{◌≡◌}
use Rattle.std.specs.Iterator.Adapters.{zip_first, zip_second}
use Rattle.std.specs.Slice.Iter.{iter_rest}
use lib.ListN.{take, length}
use Rattle.blocks.specs.Blocks.{blocks_fill, order_from}
use Rattle.blocks.proofs.blocks_fill.Given as goal

abbrev pub invariant-loop-x : goal.invariant-loop-x
invariant-loop-x l = (length (iter_rest (zip_second l.x-iterator)) ≡ length (iter_rest (zip_first l.x-iterator))) × (order_from l.s l.z l.last (iter_rest (zip_first l.x-iterator)) (iter_rest (zip_second l.x-iterator)) ≡ blocks_fill l.first l.last (take l.count l.starts) (take l.count l.sizes))
