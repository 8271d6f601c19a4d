-- The digits passed, and those from here on, have the value of them all. Assumes nothing.
use Prim.Native.Nat.{◌≤◌}
use mathlib.Core.Path.{◌≡◌}
use lib.ListN.{drop}
use Rattle.numbers.specs.Numbers.{value, value_from}
use Rattle.numbers.proofs.read_long.Given as goal

abbrev pub invariant-loop-b : goal.invariant-loop-b
invariant-loop-b l = (l.acc ≤ l.most) × (value_from l.acc (drop l.b-index l.word) ≡ value l.word)
