-- Storing the rest from here on completes storing all of them. Assumes nothing.
use Prim.Native.Nat.{◌≤◌}
use mathlib.Core.Path.{◌≡◌}
use lib.ListN.{take, drop}
use lib.Seq.{sets}
use Rattle.ledger.specs.Limits.{largest_number}
use Rattle.blocks.specs.Blocks.{shifted_within}
use Rattle.blocks.proofs.put_shifted.Given as goal

abbrev pub invariant-loop-i : goal.invariant-loop-i
invariant-loop-i l = (l.by ≤ largest_number) × (sets l.to l.i (shifted_within largest_number l.by (drop l.i l.x-items)) ≡ sets l.initial.to 0 (shifted_within largest_number l.by (take l.count l.from)))
