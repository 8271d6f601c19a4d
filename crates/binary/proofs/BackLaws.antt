-- Reading back what was stored gives the number. Assumes nothing.
use mathlib.Core.Path.{◌≡◌, refl, ap, ◌∙◌}
use mathlib.Core.List.{List, [], ◌∷◌, ◌++◌, append_assoc}
use Prim.Native.Nat.{ℕ, zero, suc, ◌+◌, ◌*◌, ◌/◌, ◌%◌, ◌^◌, ◌<◌}
use native.Mathlib.Omega.{arith}
use native.Mathlib.Nat.{pow-suc}
use lib.ListN.{length, get_or, length-append}
use Rattle.ledger.specs.declared.Row.{Row}
use Rattle.ledger.specs.Limits.{largest_number}
use Rattle.numbers.specs.Ranges.{Between, between_more}
use Rattle.binary.specs.Bytes.{low_bytes, word_size, words_bytes, low_at, rows_numbers}

pub low_length : (k n : ℕ) → length (low_bytes k n) ≡ k
unfolding low_bytes
low_length zero n = refl
low_length (suc k) n = ap suc (low_length k (n / 256))

pub words_length : (vs : List ℕ) → length (words_bytes vs) ≡ word_size * length vs
unfolding words_bytes
words_length [] = refl
words_length (v ∷ vs) = rw (length-append, low_length, words_length vs) (omega arith)

pub rows_length : (bs : List Row) → length (rows_numbers bs) ≡ 3 * length bs
unfolding rows_numbers
rows_length [] = refl
rows_length (b ∷ bs) = omega (arith, rows_length bs)

-- bytes before the place do not matter
low_on : (k x : ℕ) (s : List ℕ) (at : ℕ) → low_at k (x ∷ s) (suc at) ≡ low_at k s at
unfolding low_at
low_on zero x s at = refl
low_on (suc k) x s at = ap (λ (h : ℕ). get_or s at 0 + 256 * h) (low_on k x s (suc at))

pub low_after : (k : ℕ) (xs s : List ℕ) (at : ℕ) → low_at k (xs ++ s) (length xs + at) ≡ low_at k s at
low_after k [] s at = ap (low_at k s) (omega arith)
low_after k (x ∷ xs) s at =
    let e : suc (length xs) + at ≡ suc (length xs + at) = omega arith in
    rw e (low_on k x (xs ++ s) (length xs + at) ∙ low_after k xs s at)

-- the bytes of a number make that number
pub low_back : (k n : ℕ) (rest : List ℕ) → n < 256 ^ k → low_at k (low_bytes k n ++ rest) 0 ≡ n
unfolding low_bytes low_at
low_back zero n rest h = omega arith
low_back (suc k) n rest h =
    let e = low_on k (n % 256) (low_bytes k (n / 256) ++ rest) 0 ∙ low_back k (n / 256) rest (omega (arith, pow-suc 256 k)) in
    rw e (omega arith)

-- of numbers stored one after the other, number i stands at 8 × i
pub words_back : (vs rest : List ℕ) (i : ℕ) → Between 0 largest_number vs → i < length vs → low_at word_size (words_bytes vs ++ rest) (word_size * i) ≡ get_or vs i 0
unfolding words_bytes
words_back [] rest i b h = absurd (omega arith)
words_back (v ∷ vs) rest zero (between_more low high b) h = rw (append_assoc (low_bytes word_size v) (words_bytes vs) rest) (low_back word_size v (words_bytes vs ++ rest) (omega arith))
words_back (v ∷ vs) rest (suc i) (between_more low high b) h =
    let e : word_size * suc i ≡ length (low_bytes word_size v) + word_size * i = omega (arith, low_length word_size v) in
    rw (append_assoc (low_bytes word_size v) (words_bytes vs) rest, e)
    (low_after word_size (low_bytes word_size v) (words_bytes vs ++ rest) (word_size * i) ∙ words_back vs rest i b (omega arith))
