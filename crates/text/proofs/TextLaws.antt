-- What the definitions find in a text that is put together of words and gaps: for the laws that reading undoes writing. Assumes nothing.
use mathlib.Core.Path.{◌≡◌, refl}
use mathlib.Core.Bool.{Bool, true, false, ◌&&◌}
use mathlib.Core.List.{List, [], ◌∷◌, ◌++◌}
use Prim.Native.Nat.{ℕ, ◌≤◌}
use native.Mathlib.Omega.{arith}
use lib.ListN.{length, length-append}
use lib.Dec.{leb}
use borrow.Author.Tests.{leb-true, le-leb, ne_eqb}
use Rattle.text.specs.declared.Class.{Class}
use Rattle.text.specs.declared.Class.TheVariants.{Word, Line, Allowed, Digit, Item, Graphic}
use Rattle.text.specs.Scan.{is_in, run}
use Rattle.text.proofs.Laws.{run_append, more_ones}

-- all bytes of xs are of the class
abbrev pub All : Class → List ℕ → Type 0
All c xs = run c xs ≡ length xs

pub all_append : (c : Class) (xs ys : List ℕ) → All c xs → All c ys → All c (xs ++ ys)
all_append c xs ys h k = rw (run_append c xs ys h, length-append, k)

-- a class within another
pub all_within : (c d : Class) → ((b : ℕ) → is_in c b ≡ true → is_in d b ≡ true) → (xs : List ℕ) → All c xs → All d xs
unfolding run
all_within c d f [] h = refl
all_within c d f (x ∷ xs) h =
    let m = more_ones (is_in c x) (run c xs) (length xs) h in
    rw (f x m.0, all_within c d f xs m.1)

pub both : (a b : Bool) → (a && b) ≡ true → (a ≡ true) × (b ≡ true)
both true b h = (refl, h)
both false b h = (h, cc)

pub digit_graphic : (b : ℕ) → is_in Digit b ≡ true → is_in Graphic b ≡ true
digit_graphic b h =
    let p = both (leb 48 b) (leb b 57) h in
    rw (le-leb 33 b (omega (arith, leb-true 48 b p.0)), le-leb b 126 (omega (arith, leb-true b 57 p.1)))

pub graphic_low : (b : ℕ) → is_in Graphic b ≡ true → 33 ≤ b
graphic_low b h = leb-true 33 b (both _ _ h).0

pub graphic_word : (b : ℕ) → is_in Graphic b ≡ true → is_in Word b ≡ true
graphic_word b h =
    let l = graphic_low b h in
    rw (ne_eqb b 32 (λ e. omega arith), ne_eqb b 9 (λ e. omega arith), ne_eqb b 10 (λ e. omega arith))

pub graphic_line : (b : ℕ) → is_in Graphic b ≡ true → is_in Line b ≡ true
graphic_line b h = let l = graphic_low b h in rw (ne_eqb b 10 (λ e. omega arith))

pub graphic_allowed : (b : ℕ) → is_in Graphic b ≡ true → is_in Allowed b ≡ true
graphic_allowed b h =
    let p = both (leb 33 b) (leb b 126) h in
    let l = graphic_low b h in
    rw (ne_eqb b 9 (λ e. omega arith), ne_eqb b 10 (λ e. omega arith), le-leb 32 b (omega arith), p.1)

pub in_word_lem : (xs : List ℕ) → All Graphic xs → All Word xs
in_word_lem xs h = all_within Graphic Word graphic_word xs h

pub in_line : (xs : List ℕ) → All Graphic xs → All Line xs
in_line xs h = all_within Graphic Line graphic_line xs h

pub in_allowed : (xs : List ℕ) → All Graphic xs → All Allowed xs
in_allowed xs h = all_within Graphic Allowed graphic_allowed xs h

pub digit_item : (b : ℕ) → is_in Digit b ≡ true → is_in Item b ≡ true
digit_item b h =
    let p = both (leb 48 b) (leb b 57) h in
    let l = leb-true 48 b p.0 in
    rw (ne_eqb b 44 (λ e. omega arith))
