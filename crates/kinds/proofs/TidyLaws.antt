-- A word that spells a value is the value's standard word, but for the two kinds that may be spelt in two ways: a list without its last comma, and black as three
-- numbers. Assumes nothing.
use mathlib.Core.Path.{◌≡◌, refl, sym, ap, ◌∙◌}
use mathlib.Core.Bool.{true}
use mathlib.Core.Logic.{◌⊎◌, inl, inr}
use mathlib.Core.List.{List, [], ◌∷◌, ◌++◌}
use Prim.Native.Nat.{ℕ, ◌≤◌, ◌<◌}
use native.Mathlib.Omega.{arith}
use lib.ListN.{length, length-append}
use borrow.Author.Tests.{eqb-false, not-true, ne_eqb}
use Rattle.ledger.specs.Limits.{colour_limit}
use Rattle.text.specs.declared.Class.TheVariants.{Item}
use Rattle.text.specs.Scan.{is_in}
use Rattle.text.specs.Pieces.{joined}
use Rattle.numbers.specs.Ranges.{Between, between_more}
use Rattle.numbers.specs.Lists.{last_byte}
use Rattle.writing.specs.Digits.{digits, list_text}
use Rattle.writing.proofs.DigitLaws.{some_digits, digits_items}
use Rattle.kinds.specs.declared.Kind.{Kind}
use Rattle.kinds.specs.declared.Kind.TheVariants.{Name, Number, Count, Items, Stranded, Word, Colour}
use Rattle.kinds.specs.Kinds.{fixed_text}
use Rattle.kinds.specs.Words.{red_of, green_of, blue_of, colour_text}
use Rattle.kinds.specs.SpeltAs.{parted, Mixed, SpeltAs}
use Rattle.kinds.proofs.DecimalLaws.{parted_closed}
use Rattle.kinds.proofs.SpeltAsLaws.{last_append, last_item}

-- what is to be seen of a word beside its value: a list's last byte is a comma, and black is one byte
abbrev pub Tidy : Kind → List ℕ → ℕ → Type 0
Tidy Name w v = Unit {0}
Tidy (Number r) w v = Unit {0}
Tidy Count w v = Unit {0}
Tidy (Items r) w v = last_byte 0 w ≡ 44
Tidy (Stranded dot) w v = Unit {0}
Tidy (Word f) w v = Unit {0}
Tidy Colour w v = v ≡ 0 → length w ≡ 1

-- the standard word of a value v and a list us; a name is its own
abbrev pub standard_word : Kind → List ℕ → ℕ → List ℕ → List ℕ
standard_word Name w v us = w
standard_word (Number r) w v us = digits v
standard_word Count w v us = digits v
standard_word (Items r) w v us = list_text us
standard_word (Stranded dot) w v us = v ∷ []
standard_word (Word f) w v us = fixed_text f
standard_word Colour w v us = colour_text v

-- ---- a list: without its last comma it ends with a digit
parted_last : (d v : ℕ) (us : List ℕ) → is_in Item (last_byte d (parted (v ∷ us))) ≡ true
unfolding joined
parted_last d v [] = last_item d (digits v) (some_digits v) (digits_items v)
parted_last d v (u ∷ us) = rw (last_append d (digits v) 44 (parted (u ∷ us))) (parted_last 44 u us)

list_tidy : (w us : List ℕ) → 1 ≤ length us → (w ≡ parted us) ⊎ (w ≡ parted us ++ (44 ∷ [])) → last_byte 0 w ≡ 44 → list_text us ≡ w
list_tidy w [] some e last = absurd (omega arith)
list_tidy w (v ∷ us) some (inl e) last = absurd (eqb-false (last_byte 0 w) 44 (rw e (not-true _ (parted_last 0 v us))) last)
list_tidy w (v ∷ us) some (inr e) last = sym (e ∙ parted_closed v us)

-- ---- a colour: its three numbers, and black
range_three : (r g b most : ℕ) → Between 0 most (r ∷ g ∷ b ∷ []) → (r ≤ most) × (g ≤ most) × (b ≤ most)
range_three r g b most (between_more x a (between_more y c (between_more z d t))) = (a, c, d)

black : (v : ℕ) → v ≡ 0 → colour_text v ≡ 48 ∷ []
unfolding colour_text
black v e = rw e

coloured : (v : ℕ) → (v ≡ 0 → ⊥) → colour_text v ≡ parted (red_of v ∷ green_of v ∷ blue_of v ∷ [])
unfolding colour_text joined
coloured v h = rw (ne_eqb v 0 h)

three_long : (r g b : ℕ) → 1 < length (parted (r ∷ g ∷ b ∷ []))
unfolding joined
three_long r g b = rw length-append (omega (arith, some_digits r))

mixed_tidy : (w : List ℕ) (v : ℕ) → Mixed w v → (v ≡ 0 → length w ≡ 1) → colour_text v ≡ w
mixed_tidy w v m h =
    let k = range_three m.red m.green m.blue colour_limit m.range in
    let e = m.value in
    let red : red_of v ≡ m.red = omega (arith, k) in
    let green : green_of v ≡ m.green = omega (arith, k) in
    let blue : blue_of v ≡ m.blue = omega (arith, k) in
    coloured v (λ z. omega (arith, h z, ap length m.word, three_long m.red m.green m.blue))
    ∙ (λ i. parted (red i ∷ green i ∷ blue i ∷ [])) ∙ sym m.word

colour_tidy : (w : List ℕ) (v : ℕ) → ((w ≡ 48 ∷ []) × (v ≡ 0)) ⊎ Mixed w v → (v ≡ 0 → length w ≡ 1) → colour_text v ≡ w
colour_tidy w v (inl e) h = black v e.1 ∙ sym e.0
colour_tidy w v (inr m) h = mixed_tidy w v m h

-- A TIDY WORD IS THE STANDARD WORD OF WHAT IT SPELLS
pub tidy_word : (c : Kind) (n : ℕ) (w : List ℕ) (v : ℕ) (us : List ℕ) → SpeltAs c n w v us → Tidy c w v → standard_word c w v us ≡ w
tidy_word Name n w v us p h = refl
tidy_word (Number r) n w v us p h = sym p.0.word
tidy_word Count n w v us p h = sym p.0.word
tidy_word (Items r) n w v us p h = list_tidy w us p.0.some p.0.word h
tidy_word (Stranded dot) n w v us p h = sym p.0
tidy_word (Word f) n w v us p h = sym p.0
tidy_word Colour n w v us p h = colour_tidy w v p.0 h
