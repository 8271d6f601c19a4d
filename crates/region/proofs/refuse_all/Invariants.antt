-- Rows up to i are written. Assumes nothing.
use mathlib.Core.Path.{◌≡◌}
use mathlib.Core.List.{◌++◌}
use Prim.Native.Nat.{◌-◌}
use lib.ListN.{length, take, drop}
use Rattle.region.specs.Steps.{refused_rows}
use Rattle.region.proofs.refuse_all.Given as goal

abbrev pub invariant-loop-i : goal.invariant-loop-i
invariant-loop-i l = (length l.answers ≡ length l.initial.answers) × (take l.i l.answers ++ (refused_rows (l.count - l.i) ++ drop l.count l.answers) ≡ refused_rows l.count ++ drop l.count l.initial.answers)
