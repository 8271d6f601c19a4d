-- What −1 − x is of a negative x: no longer negative, and in range.
-- Assumes nothing.
use mathlib.Core.Path.{◌≡◌, sym, ◌∙◌, ap, subst}
use mathlib.Core.Bool.{false}
use Prim.Native.Nat.{ℕ, zero, suc, zero-le}
use lib.Dec.{T, le→leb}
use lib.IntN.{ℤ, pos, negsuc, pred_ℤ, ◌-ℤ◌, pred_ℤ-+ℤ, +ℤ_idl}
use lib.Signed.{◌≤ℤ◌, le_z}
use mir.Syntax.{w64}
use mir.Val.{to_z, of_z, SFits}
use mir.ValLaws.{to_z-of_z}

less_is : (n : ℕ) → negsuc 0 -ℤ negsuc n ≡ pos n
less_is n = pred_ℤ-+ℤ (pos zero) (pos (suc n)) ∙ ap pred_ℤ (+ℤ_idl (pos (suc n)))

natural_is : (n : ℕ) → le_z (pos 0) (pos n) ≡ false → ⊥
natural_is n e = subst T e (le→leb 0 n zero-le)

fits_less : (x : ℤ) → SFits w64 x → le_z (pos 0) x ≡ false → SFits w64 (negsuc 0 -ℤ x)
fits_less (pos n) f e = absurd (natural_is n e)
fits_less (negsuc n) f e = subst (SFits w64) (sym (less_is n)) (record { sfits = f.sfits })

not_negative : (x : ℤ) → le_z (pos 0) x ≡ false → pos 0 ≤ℤ (negsuc 0 -ℤ x)
not_negative (pos n) e = absurd (natural_is n e)
not_negative (negsuc n) e = subst (λ (z : ℤ). pos 0 ≤ℤ z) (sym (less_is n)) (record { le = le→leb 0 n zero-le })

-- as the machine reads them back from bits
module _ (x : ℤ) (f : SFits w64 x) (e : le_z (pos 0) (to_z w64 (of_z w64 x)) ≡ false) where
  plain : le_z (pos 0) x ≡ false
  plain = subst (λ (z : ℤ). le_z (pos 0) z ≡ false) (to_z-of_z w64 x f) e

  pub less_fits : SFits w64 (negsuc 0 -ℤ to_z w64 (of_z w64 x))
  less_fits = subst (λ (z : ℤ). SFits w64 (negsuc 0 -ℤ z)) (sym (to_z-of_z w64 x f)) (fits_less x f plain)

  pub less_natural : pos 0 ≤ℤ to_z w64 (of_z w64 (negsuc 0 -ℤ to_z w64 (of_z w64 x)))
  less_natural = subst (λ (z : ℤ). pos 0 ≤ℤ z) (sym (to_z-of_z w64 _ less_fits)) (subst (λ (z : ℤ). pos 0 ≤ℤ (negsuc 0 -ℤ z)) (sym (to_z-of_z w64 x f)) (not_negative x plain))
