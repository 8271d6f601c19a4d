-- Storing the sums that go on from here completes storing all of them. Assumes nothing.
use Prim.Native.Nat.{◌≤◌}
use mathlib.Core.Path.{◌≡◌}
use lib.ListN.{take, drop}
use lib.Seq.{sets}
use Rattle.blocks.specs.Blocks.{sums_within}
use Rattle.ledger.specs.Limits.{largest_number}
use Rattle.blocks.proofs.put_sums.Given as goal

abbrev pub invariant-loop-i : goal.invariant-loop-i
invariant-loop-i l = (l.sum ≤ largest_number) × (sets l.to l.i (sums_within largest_number l.sum (drop l.i l.z-items)) ≡ sets l.initial.to 0 (sums_within largest_number 0 (take l.count l.sizes)))
