-- Laws of numbers: what each step of reading one shows. Assumes nothing.
use mathlib.Core.Path.{◌≡◌, refl}
use mathlib.Core.Bool.{Bool, true, false, not, ◌&&◌, ◌||◌}
use mathlib.Core.List.{List, [], ◌∷◌}
use Prim.Native.Nat.{ℕ, ◌+◌, ◌-◌, ◌*◌, ◌/◌, ◌≤◌, ◌<◌}
use native.Mathlib.Numerals.{add-one}
use native.Mathlib.Nat.{le_refl}
use native.Mathlib.Omega.{arith}
use lib.ListN.{length, drop, get_or, drop_of_length-le}
use lib.Seq.{drop-cons}
use lib.Dec.{leb, eqb}
use borrow.Author.Tests.{not-true, not-false, ne_eqb, le-leb, lt-leb}
use Rattle.ledger.specs.declared.Reason.TheVariants.{NumberMisspelt, NumberOutOfRange}
use Rattle.text.specs.declared.Class.TheVariants.{Digit}
use Rattle.text.specs.Scan.{end_of}
use Rattle.numbers.specs.Numbers.{well_spelt, value_from, value, number_of}
use Rattle.std.specs.Prelude.{Ok, Err}
use Rattle.ledger.specs.Refusals.{fault_at}

pub spelt_is : (w : List ℕ) (e : ℕ) → e ≡ end_of Digit w 0 → (length w ≡ 0 → ⊥) → (eqb e (length w) && (eqb (length w) 1 || not (eqb (get_or w 0 0) 48))) ≡ well_spelt w
unfolding well_spelt
spelt_is w e p h = rw (p, ne_eqb _ _ h)

pub value_from_le : (acc : ℕ) (w : List ℕ) → acc ≤ value_from acc w
unfolding value_from
value_from_le acc [] = le_refl acc
value_from_le acc (b ∷ w) = omega (arith, value_from_le (acc * 10 + (b - 48)) w)

pub and_no : (b : Bool) → (b && false) ≡ false
and_no true = refl
and_no false = refl

module _ (least most : ℕ) (w : List ℕ) (t : Bool) (is : t ≡ well_spelt w) where
  pub not_spelt : not t ≡ true → Err (fault_at NumberMisspelt 0) ≡ number_of least most w
  unfolding number_of
  not_spelt e = rw (← is, not-true t e)

  module _ (yes' : not t ≡ false) where
    above : most < value w → Err (fault_at NumberOutOfRange 0) ≡ number_of least most w
    unfolding number_of
    above l = rw (← is, not-false t yes', lt-leb (value w) most l, and_no (leb least (value w)))

    module _ (acc i : ℕ) (inv : value_from acc (drop i w) ≡ value w) where
      module _ (d : ℕ) (h : i < length w) (is-d : d ≡ get_or w i 0 - 48) where
        pub value_more : value_from (acc * 10 + d) (drop (i + 1) w) ≡ value w
        unfolding value_from
        value_more = rw (is-d, add-one, ← inv, drop-cons w i 0 h)

        value_least : acc * 10 + d ≤ value w
        value_least = omega (arith, value_more, value_from_le (acc * 10 + d) (drop (i + 1) w))

        -- the tens alone pass the greatest value
        pub tens_large : most / 10 < acc → Err (fault_at NumberOutOfRange 0) ≡ number_of least most w
        tens_large l = above (omega (arith, value_least))

        -- the digit passes it
        pub digit_large : most - acc * 10 < d → Err (fault_at NumberOutOfRange 0) ≡ number_of least most w
        digit_large l = above (omega (arith, value_least))

      value_is_acc : length w ≤ i → acc ≡ value w
      unfolding value_from
      value_is_acc past = rw (drop_of_length-le w past) at inv

      pub value_small : length w ≤ i → acc < least → Err (fault_at NumberOutOfRange 0) ≡ number_of least most w
      unfolding number_of
      value_small past l = rw (← is, not-false t yes', ← value_is_acc past, lt-leb least acc l)

      pub value_done : length w ≤ i → least ≤ acc → acc ≤ most → Ok acc ≡ number_of least most w
      unfolding number_of
      value_done past l m = rw (← is, not-false t yes', ← value_is_acc past, le-leb least acc l, le-leb acc most m)
