-- What each step of writing a word by its kind shows, on plain values. Assumes nothing.
use mathlib.Core.Path.{◌≡◌}
use mathlib.Core.Bool.{Bool}
use mathlib.Core.List.{List, [], ◌∷◌}
use Prim.Native.Nat.{ℕ, ◌+◌, ◌-◌, ◌%◌, ◌≤◌, min}
use native.Mathlib.Omega.{arith}
use lib.ListN.{length, take, drop, length-drop, drop_of_length-le}
use lib.Seq.{take_all, take-nil}
use borrow.Author.Tests.{ne_eqb}
use Rattle.text.proofs.Laws.{either}
use Rattle.writing.specs.Digits.{digits, list_text}
use Rattle.writing.specs.Puts.{Put}
use Rattle.writing.proofs.PutLaws.{put_then}
use Rattle.kinds.specs.declared.Range.{Range}
use Rattle.kinds.specs.declared.Fixed.{Fixed}
use Rattle.kinds.specs.declared.Fixed.TheVariants as fixed
use Rattle.kinds.specs.declared.Kind.{Kind}
use Rattle.kinds.specs.declared.Kind.TheVariants.{Name, Number, Count, Items, Stranded, Word, Colour}
use Rattle.kinds.specs.Kinds.{fixed_text}
use Rattle.kinds.specs.Words.{red_of, green_of, blue_of, colour_text, word_of}

-- a part by its start and length, cut off where its text ends, holds the same
part_in_lem : (t : List ℕ) (p n a m : ℕ) → a ≡ min p (length t) → m ≡ min n (length t - a) → take (a + m - a) (drop a t) ≡ take n (drop p t)
part_in_lem t p n a m ea em =
    let q : a + m - a ≡ m = omega arith in
    rw q
    (either p (length t) _ (λ h.
    let e : a ≡ p = omega arith in
    rw e
    (either n (length t - p) _ (λ k. let f : m ≡ n = omega arith in rw f)
    (λ k. rw (take_all m (drop p t) (rw length-drop (omega arith)), take_all n (drop p t) (rw length-drop (omega arith))))))
    (λ h.
    let z : length t ≤ a = omega arith in
    let y : length t ≤ p = omega arith in
    rw (drop_of_length-le t z, drop_of_length-le t y, take-nil, take-nil)))

pub put_part : (t : List ℕ) (p n a m at r : ℕ) (b b₁ : List ℕ) → a ≡ min p (length t) → m ≡ min n (length t - a) → Put (take (a + m - a) (drop a t)) at b b₁ r → Put (take n (drop p t)) at b b₁ r
put_part t p n a m at r b b₁ ea em h = rw (part_in_lem t p n a m ea em) at h

pub put_list_part : (t : List ℕ) (p n a m at r : ℕ) (b b₁ : List ℕ) → a ≡ min p (length t) → m ≡ min n (length t - a) → Put (list_text (take (a + m - a) (drop a t))) at b b₁ r → Put (list_text (take n (drop p t))) at b b₁ r
put_list_part t p n a m at r b b₁ ea em h = rw (part_in_lem t p n a m ea em) at h

module _ (f : Fixed) (at r : ℕ) (b b₁ : List ℕ) where
  pub put_chain : f ≡ fixed.Chain → Put (99 ∷ 104 ∷ 97 ∷ 105 ∷ 110 ∷ []) at b b₁ r → Put (fixed_text f) at b b₁ r
  put_chain q h = rw q h

  pub put_plus : f ≡ fixed.Plus → Put (43 ∷ []) at b b₁ r → Put (fixed_text f) at b b₁ r
  put_plus q h = rw q h

pub colour_zero : (v at r : ℕ) (b b₁ : List ℕ) → v ≡ 0 → Put (48 ∷ []) at b b₁ r → Put (colour_text v) at b b₁ r
unfolding colour_text
colour_zero v at r b b₁ q e = rw q e

pub colour_three : (v at : ℕ) (b b₁ b₂ b₃ b₄ b₅ : List ℕ) (p q s u r : ℕ) → (v ≡ 0 → ⊥) → Put (digits (red_of v)) at b b₁ p → Put (44 ∷ []) p b₁ b₂ q → Put (digits (green_of v)) q b₂ b₃ s
    → Put (44 ∷ []) s b₃ b₄ u → Put (digits (blue_of v)) u b₄ b₅ r → Put (colour_text v) at b b₅ r
unfolding colour_text
colour_three v at b b₁ b₂ b₃ b₄ b₅ p q s u r h f e g e' k = rw (ne_eqb v 0 h) (put_then f (put_then e (put_then g (put_then e' k))))

-- a word by its kind
module _ (k : Kind) (t ls : List ℕ) (base v p at r : ℕ) (b b₁ : List ℕ) where
  abbrev Goal : Type 0
  Goal = Put (word_of k t ls base v p) at b b₁ r

  pub word_name : k ≡ Name → Put (take v (drop p t)) at b b₁ r → Goal
  word_name q h = rw q h

  pub word_number : (l : Range) → k ≡ Number l → Put (digits v) at b b₁ r → Goal
  word_number l q h = rw q h

  pub word_count_lem : k ≡ Count → Put (digits v) at b b₁ r → Goal
  word_count_lem q h = rw q h

  pub word_items : (l : Range) → k ≡ Items l → Put (list_text (take v (drop base ls))) at b b₁ r → Goal
  word_items l q h = rw q h

  pub word_strand : (dot : Bool) → k ≡ Stranded dot → Put ((v % 256) ∷ []) at b b₁ r → Goal
  word_strand dot q h = rw q h

  pub word_fixed : (f : Fixed) → k ≡ Word f → Put (fixed_text f) at b b₁ r → Goal
  word_fixed f q h = rw q h

  pub word_colour : k ≡ Colour → Put (colour_text v) at b b₁ r → Goal
  word_colour q h = rw q h

pub ruleset words = (word_name, word_number, word_count_lem, word_items, word_strand, word_fixed, word_colour)
