-- Laws of the standard text of a number: its value is the number, and it is well spelt. Assumes nothing.
use mathlib.Core.Path.{◌≡◌, refl, sym, ap, ◌∙◌}
use mathlib.Core.Bool.{Bool, true, false, ◌||◌}
use mathlib.Core.List.{List, [], ◌∷◌, ◌++◌}
use Prim.Native.Nat.{ℕ, zero, suc, ◌+◌, ◌-◌, ◌*◌, ◌/◌, ◌%◌, ◌^◌, ◌≤◌, ◌<◌, zero-le}
use native.Mathlib.Nat.{pow-suc}
use native.Mathlib.Omega.{arith}
use lib.ListN.{length, get_or, length-append, get_or-append}
use lib.Dec.{ltb, eqb}
use borrow.Author.Tests.{lt-ltb, le-ltb, ltb-true, ltb-false, ne_eqb, eq-eqb, le-leb}
use Rattle.text.specs.declared.Class.TheVariants.{Digit, Item, Graphic}
use Rattle.text.specs.Scan.{run, end_of}
use Rattle.text.proofs.Laws.{run_append}
use Rattle.text.proofs.TextLaws.{All, all_within, digit_graphic, digit_item}
use Rattle.numbers.specs.Numbers.{well_spelt, value_from, value, number_of}
use Rattle.writing.specs.Digits.{digits_in, digits}
use Rattle.writing.specs.Puts.{Put}
use Rattle.writing.proofs.PutLaws.{put_then}
use Rattle.std.specs.Prelude.{Ok}

-- one digit more than enough changes nothing
small : (f n : ℕ) → n < 10 → digits_in (suc f) n ≡ (48 + n) ∷ []
unfolding digits_in
small f n h = rw (lt-ltb n 10 h)

large : (f n : ℕ) → 10 ≤ n → digits_in (suc f) n ≡ digits_in f (n / 10) ++ ((48 + n % 10) ∷ [])
unfolding digits_in
large f n h = rw (le-ltb n 10 h)

-- a number below ten, or not
split : (n : ℕ) (P : Type 0) → (n < 10 → P) → (10 ≤ n → P) → P
split n P a b = go (ltb n 10) refl
  where
    go : (t : Bool) → ltb n 10 ≡ t → P
    go true e = a (ltb-true n 10 e)
    go false e = b (ltb-false n 10 e)

fuel : (f n : ℕ) → n < 10 ^ suc f → digits_in (suc (suc f)) n ≡ digits_in (suc f) n
fuel zero n h = small 1 n h ∙ sym (small 0 n h)
fuel (suc f) n h =
    split n _ (λ l. small (suc (suc f)) n l ∙ sym (small (suc f) n l))
    (λ l. large (suc (suc f)) n l ∙ ap (λ (x : List ℕ). x ++ ((48 + n % 10) ∷ [])) (fuel f (n / 10) (omega (arith, pow-suc 10 (suc f)))) ∙ sym (large (suc f) n l))

-- every number of the language is below this
abbrev pub Most : ℕ
Most = 10 ^ 20

pub digits_small : (n : ℕ) → n < 10 → digits n ≡ (48 + n) ∷ []
unfolding digits
digits_small n h = small 19 n h

pub digits_large : (n : ℕ) → 10 ≤ n → n < Most → digits n ≡ digits (n / 10) ++ ((48 + n % 10) ∷ [])
unfolding digits
digits_large n h m = large 19 n h ∙ ap (λ (x : List ℕ). x ++ ((48 + n % 10) ∷ [])) (sym (fuel 18 (n / 10) (omega arith)))

length_in : (f n : ℕ) → length (digits_in f n) ≤ f
unfolding digits_in
length_in zero n = zero-le
length_in (suc f) n =
    split n _ (λ l. rw (small f n l) (omega arith)) (λ l. rw (large f n l, length-append) (omega (arith, length_in f (n / 10))))

pub digits_length : (n : ℕ) → length (digits n) ≤ 20
unfolding digits
digits_length n = length_in 20 n

value_from_append : (acc : ℕ) (xs ys : List ℕ) → value_from acc (xs ++ ys) ≡ value_from (value_from acc xs) ys
unfolding value_from
value_from_append acc [] ys = refl
value_from_append acc (x ∷ xs) ys = value_from_append (acc * 10 + (x - 48)) xs ys

value_in : (f n : ℕ) → n < 10 ^ f → value_from 0 (digits_in f n) ≡ n
unfolding value_from digits_in
value_in zero n h = omega arith
value_in (suc f) n h =
    split n _ (λ l. rw (small f n l) (omega arith))
    (λ l. rw (large f n l, value_from_append, value_in f (n / 10) (omega (arith, pow-suc 10 f))) (omega arith))

-- the value of the digits of n is n
pub value_digits : (n : ℕ) → n < Most → value (digits n) ≡ n
unfolding value digits
value_digits n h = value_in 20 n h

one_digit : (n : ℕ) → n < 10 → run Digit ((48 + n) ∷ []) ≡ 1
unfolding run
one_digit n h = rw (le-leb 48 (48 + n) (omega arith), le-leb (48 + n) 57 (omega arith))

-- they are digits and nothing else
run_in : (f n : ℕ) → run Digit (digits_in f n) ≡ length (digits_in f n)
unfolding run digits_in
run_in zero n = refl
run_in (suc f) n =
    split n _ (λ l. rw (small f n l) (one_digit n l))
    (λ l. rw (large f n l, length-append, run_append Digit (digits_in f (n / 10)) ((48 + n % 10) ∷ []) (run_in f (n / 10)), one_digit (n % 10) (omega arith)))

pub run_digits : (n : ℕ) → run Digit (digits n) ≡ length (digits n)
unfolding digits
run_digits n = run_in 20 n

some_digit : (f n : ℕ) → 0 < length (digits_in (suc f) n)
unfolding digits_in
some_digit f n = split n _ (λ l. rw (small f n l) (omega arith)) (λ l. rw (large f n l, length-append) (omega arith))

-- no leading zero
lead_in : (f n : ℕ) → 0 < n → n < 10 ^ suc f → get_or (digits_in (suc f) n) 0 0 ≡ 48 → ⊥
unfolding digits_in
lead_in zero n h m e = let q : 48 + n ≡ 48 = rw (small 0 n m) at e in omega arith
lead_in (suc f) n h m e =
    split n ⊥ (λ l. let q : 48 + n ≡ 48 = rw (small (suc f) n l) at e in omega arith)
    (λ l. lead_in f (n / 10) (omega arith) (omega (arith, pow-suc 10 (suc f)))
    (rw (large (suc f) n l, get_or-append (digits_in (suc f) (n / 10)) ((48 + n % 10) ∷ []) 0 0 (some_digit f (n / 10))) at e))

or_yes : (b : Bool) → (b || true) ≡ true
or_yes true = refl
or_yes false = refl

pub some_digits : (n : ℕ) → 0 < length (digits n)
unfolding digits
some_digits n = some_digit 19 n

lead : (n : ℕ) → 0 < n → n < Most → get_or (digits n) 0 0 ≡ 48 → ⊥
unfolding digits
lead n h m e = lead_in 19 n h m e

pub spelt_digits : (n : ℕ) → n < Most → well_spelt (digits n) ≡ true
unfolding well_spelt end_of
spelt_digits n m =
    split n _ (λ l. rw (digits_small n l, one_digit n l))
    (λ l. rw (
      ne_eqb (length (digits n)) 0 (λ e. omega (arith, some_digits n)),
      eq-eqb (0 + run Digit (digits n)) (length (digits n)) (omega (arith, run_digits n)),
      ne_eqb (get_or (digits n) 0 0) 48 (λ e. lead n (omega arith) m e),
    ) (or_yes (eqb (length (digits n)) 1)))

-- the digits of a number in range are read as that number
pub number_digits : (least most n : ℕ) → least ≤ n → n ≤ most → n < Most → number_of least most (digits n) ≡ Ok n
unfolding number_of
number_digits least most n l h m = rw (spelt_digits n m, value_digits n m, le-leb least n l, le-leb n most h)

pub digits_graphic : (n : ℕ) → All Graphic (digits n)
digits_graphic n = all_within Digit Graphic digit_graphic (digits n) (run_digits n)

pub digits_items : (n : ℕ) → All Item (digits n)
digits_items n = all_within Digit Item digit_item (digits n) (run_digits n)

-- the digits of a small number, and of a larger one from those of its tens
pub put_small : (n : ℕ) (b b' : List ℕ) (at r : ℕ) → n < 10 → Put ((48 + n) ∷ []) at b b' r → Put (digits n) at b b' r
put_small n b b' at r h f = rw (digits_small n h) f

pub put_large : (n : ℕ) (b b₁ b₂ : List ℕ) (at p r : ℕ) → 10 ≤ n → n < 2 ^ 64 → Put (digits (n / 10)) at b b₁ p → Put ((48 + n % 10) ∷ []) p b₁ b₂ r → Put (digits n) at b b₂ r
put_large n b b₁ b₂ at p r h m f g = rw (digits_large n h (omega arith)) (put_then f g)
