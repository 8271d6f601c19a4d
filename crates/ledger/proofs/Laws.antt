-- Laws of the ledger: the numbers are 01's thirteen and distinct, opposite twice is the same strand, and the letter determines the strand. Assumes nothing.
use mathlib.Core.Path.{◌≡◌, refl, sym, ap, ◌∙◌}
use mathlib.Core.List.{List, [], ◌∷◌}
use mathlib.Core.Bool.{Bool, true, false, cond}
use Prim.Native.Nat.{ℕ}
use native.Mathlib.Omega.{arith}
use lib.Dec.{eqb}
use borrow.Author.Tests.{ne_eqb}
use lib.ListN.{get_or}
use Rattle.ledger.specs.declared.Reason.{Reason}
use Rattle.ledger.specs.declared.Reason.TheVariants.{TextTooLong, WrongCount, ByteNotAllowed, NumberMisspelt, NumberOutOfRange, BadWord, SpanDisagrees, ListLength, BlockRules, CountsDisagree, NoRoom, NoPair, OutsideTarget}
use Rattle.ledger.specs.declared.Strand.{Strand}
use Rattle.ledger.specs.declared.Strand.TheVariants.{Plus, Minus, Dot}
use Rattle.ledger.specs.Reasons.{reason_number}
use Rattle.ledger.specs.Strands.{strand_opposite, strand_letter, strand_of, strand_is, is_told}
use Rattle.std.specs.Prelude.{Some, None}

pub opposite_twice : (s : Strand) → strand_opposite (strand_opposite s) ≡ s
opposite_twice Plus = refl
opposite_twice Minus = refl
opposite_twice Dot = refl

-- a strand is read back from its letter
pub strand_of_letter : (s : Strand) → strand_of (strand_letter s) ≡ Some s
strand_of_letter Plus = refl
strand_of_letter Minus = refl
strand_of_letter Dot = refl

-- so two strands with one letter are the same
pub letter_determines : (s t : Strand) → strand_letter s ≡ strand_letter t → s ≡ t
letter_determines s t e =
    let h : Some s ≡ Some t = sym (strand_of_letter s) ∙ ap strand_of e ∙ strand_of_letter t in
    cc

-- the ledger's rows in their order
reasons : List Reason
reasons =
    TextTooLong ∷ WrongCount ∷ ByteNotAllowed ∷ NumberMisspelt ∷ NumberOutOfRange ∷ BadWord ∷ SpanDisagrees ∷ ListLength ∷ BlockRules ∷ CountsDisagree ∷ NoRoom ∷ NoPair ∷ OutsideTarget ∷ []

-- the reason in the row of a number
reason_of : ℕ → Reason
reason_of n = get_or (TextTooLong ∷ reasons) n TextTooLong

reason_of_number : (r : Reason) → reason_of (reason_number r) ≡ r
unfolding reason_of reasons
reason_of_number TextTooLong = refl
reason_of_number WrongCount = refl
reason_of_number ByteNotAllowed = refl
reason_of_number NumberMisspelt = refl
reason_of_number NumberOutOfRange = refl
reason_of_number BadWord = refl
reason_of_number SpanDisagrees = refl
reason_of_number ListLength = refl
reason_of_number BlockRules = refl
reason_of_number CountsDisagree = refl
reason_of_number NoRoom = refl
reason_of_number NoPair = refl
reason_of_number OutsideTarget = refl

-- the thirteen numbers are distinct
pub numbers_distinct : (r q : Reason) → reason_number r ≡ reason_number q → r ≡ q
numbers_distinct r q e = sym (reason_of_number r) ∙ ap reason_of e ∙ reason_of_number q

-- the strand of a letter that a column holds
module _ (v : ℕ) where
  pub value_plus : v ≡ 43 → Plus ≡ strand_is (strand_of v)
  value_plus e = rw e

  pub value_minus : v ≡ 45 → Minus ≡ strand_is (strand_of v)
  value_minus e = rw e

  pub value_dot : (v ≡ 43 → ⊥) → (v ≡ 45 → ⊥) → Dot ≡ strand_is (strand_of v)
  value_dot h k = rw (ne_eqb v 43 h, ne_eqb v 45 k) (go (eqb v 46))
    where
      go : (t : Bool) → Dot ≡ strand_is (cond t (Some Dot) None)
      go true = refl
      go false = refl

-- a strand is told exactly where it is not `.`
pub told_of : (s : Strand) → is_told s ≡ true → s ≡ Dot → ⊥
told_of Plus h e = let z : ◌≡◌ {A = ℕ} 0 1 = cc in omega arith
told_of Minus h e = let z : ◌≡◌ {A = ℕ} 0 1 = cc in omega arith
told_of Dot h e = let z : ◌≡◌ {A = ℕ} 0 1 = cc in omega arith

pub told_is : (s : Strand) → (s ≡ Dot → ⊥) → is_told s ≡ true
told_is Plus h = refl
told_is Minus h = refl
told_is Dot h = absurd (h refl)
