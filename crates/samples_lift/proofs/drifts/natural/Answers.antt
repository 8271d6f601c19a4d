-- A signed number that is not negative is a natural number.
-- Assumes nothing.
use mathlib.Core.Path.{sym, subst}
use native.Mathlib.Nat.{lt_of_le_of_lt}
use Prim.Native.Nat.{◌≤◌}
use lib.IntN.{ℤ, pos, nat_abs}
use lib.Dec.{lit<}
use lib.Signed.{◌≤ℤ◌, yes_non_neg, nat_abs-le}
use mir.Syntax.{w64}
use mir.Val.{Fits}
use mir.ValLaws.{to_z-of_z}
use Rattle.samples_lift.proofs.drifts.natural.Goals as goal

pub overflow_cast-result : goal.overflow_cast-result
overflow_cast-result c = (yes_non_neg (subst (λ (z : ℤ). pos 0 ≤ℤ z) (sym (to_z-of_z w64 c.args.x c.ranges.x)) c.requires), subst (λ (z : ℤ). Fits w64 (nat_abs z)) (sym (to_z-of_z w64 c.args.x c.ranges.x)) (record { fits = lt_of_le_of_lt (nat_abs-le c.args.x c.ranges.x.sfits) (lit< tt) }))

pub returns : goal.returns
returns c = subst (λ (z : ℤ). nat_abs z ≤ 9223372036854775808) (sym (to_z-of_z w64 c.args.x c.ranges.x)) (nat_abs-le c.args.x c.ranges.x.sfits)
