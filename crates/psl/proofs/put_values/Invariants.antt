-- Storing the rest from here on completes storing all of them. Assumes nothing.
use Prim.Native.Nat.{◌*◌}
use mathlib.Core.Path.{◌≡◌}
use lib.ListN.{drop}
use Rattle.psl.specs.Steps.{values_put}
use Rattle.psl.proofs.put_values.Given as goal

abbrev pub invariant-loop-k : goal.invariant-loop-k
invariant-loop-k l = values_put l.out (2 * l.k) (drop l.k l.values) ≡ values_put l.initial.out 0 l.values
