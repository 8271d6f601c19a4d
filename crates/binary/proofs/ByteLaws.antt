-- Laws of numbers as bytes: storing them one after the other, and reading them back. Assumes nothing.
use mathlib.Core.Path.{◌≡◌, refl, ap}
use mathlib.Core.List.{List, [], ◌∷◌, ◌++◌, append_assoc}
use Prim.Native.Nat.{ℕ, zero, suc, ◌+◌, ◌-◌, ◌*◌, ◌/◌, ◌%◌, ◌^◌, ◌≤◌, ◌<◌, min}
use native.Mathlib.Omega.{arith}
use native.Mathlib.Nat.{pow-suc}
use native.Mathlib.Numerals.{add-one}
use lib.ListN.{length, get_or, take, drop, drop_of_length-le}
use lib.Seq.{drop-cons, take_all}
use Rattle.std.specs.Int.{w64, from_le_bytes}
use Rattle.ledger.specs.declared.Row.{Row}
use Rattle.ledger.specs.Limits.{largest_place}
use Rattle.blocks.specs.Blocks.{rows_of}
use Rattle.blocks.specs.Rows.{row_as, row_at, table_of}
use Rattle.blocks.proofs.TableLaws.{table_length, taken_cons}
use Rattle.writing.specs.Puts.{Put}
use Rattle.writing.proofs.PutLaws.{put_then, Completes, completes_step, completes_done}
use Rattle.binary.specs.Bytes.{low_bytes, word_size, words_bytes, low_at, rows_numbers, ByteRead}

low_next : (k j n : ℕ) → k ≡ suc j → low_bytes k n ≡ n % 256 ∷ low_bytes j (n / 256)
unfolding low_bytes
low_next k j n e = rw e

-- the lowest byte, then the others: k bytes of which i are stored
module _ (k i n p at : ℕ) (all b b₀ : List ℕ) (c : Completes (low_bytes (k - i) n) p b all at b₀) where
  pub low_step : (q : ℕ) (b₁ : List ℕ) → i < k → Put (n % 256 ∷ []) p b b₁ q → Completes (low_bytes (k - (i + 1)) (n / 256)) q b₁ all at b₀
  low_step q b₁ h f =
      completes_step (low_bytes (k - i) n) (n % 256 ∷ []) (low_bytes (k - (i + 1)) (n / 256)) all p q at b b₁ b₀ c (low_next (k - i) (k - (i + 1)) n (omega arith)) f

  pub low_done : k ≤ i → p ≤ largest_place → length b ≤ largest_place → Put all at b₀ b p
  unfolding low_bytes
  low_done h l m = let e : k - i ≡ 0 = omega arith in completes_done (low_bytes (k - i) n) all p at b b₀ c (rw e) l m

pub words_next : (vs : List ℕ) (i : ℕ) → i < length vs → words_bytes (drop i vs) ≡ low_bytes word_size (get_or vs i 0) ++ words_bytes (drop (i + 1) vs)
unfolding words_bytes
words_next vs i h = rw (drop-cons vs i 0 h, add-one i)

pub words_past : (vs : List ℕ) (i : ℕ) → length vs ≤ i → words_bytes (drop i vs) ≡ []
unfolding words_bytes
words_past vs i h = rw (drop_of_length-le vs h)

-- numbers one by one
module _ (vs : List ℕ) (i p at : ℕ) (b b₀ : List ℕ) (c : Completes (words_bytes (drop i vs)) p b (words_bytes vs) at b₀) where
  pub words_step : (q : ℕ) (b₁ : List ℕ) → i < length vs → Put (low_bytes word_size (get_or vs i 0)) p b b₁ q → Completes (words_bytes (drop (i + 1) vs)) q b₁ (words_bytes vs) at b₀
  words_step q b₁ h f = completes_step (words_bytes (drop i vs)) (low_bytes word_size (get_or vs i 0)) (words_bytes (drop (i + 1) vs)) (words_bytes vs) p q at b b₁ b₀ c (words_next vs i h) f

  pub words_done : length vs ≤ i → p ≤ largest_place → length b ≤ largest_place → Put (words_bytes vs) at b₀ b p
  words_done h l m = completes_done (words_bytes (drop i vs)) (words_bytes vs) p at b b₀ c (words_past vs i h) l m

pub words_append : (xs ys : List ℕ) → words_bytes (xs ++ ys) ≡ words_bytes xs ++ words_bytes ys
unfolding words_bytes
words_append [] ys = refl
words_append (x ∷ xs) ys = rw (words_append xs ys, append_assoc)

pub append_nil : (xs : List ℕ) → xs ++ [] ≡ xs
append_nil [] = refl
append_nil (x ∷ xs) = ap (λ (l : List ℕ). x ∷ l) (append_nil xs)

-- the three numbers of a row
pub row_put : (t q z at p₁ p₂ r : ℕ) (b b₁ b₂ b₃ : List ℕ) → Put (low_bytes word_size t) at b b₁ p₁ → Put (low_bytes word_size q) p₁ b₁ b₂ p₂ → Put (low_bytes word_size z) p₂ b₂ b₃ r
    → Put (words_bytes (rows_numbers (row_as t q z ∷ []))) at b b₃ r
unfolding words_bytes rows_numbers
row_put t q z at p₁ p₂ r b b₁ b₂ b₃ f g h = put_then f (put_then g (rw (append_nil (low_bytes word_size z)) h))

rows_append : (xs ys : List Row) → rows_numbers (xs ++ ys) ≡ rows_numbers xs ++ rows_numbers ys
unfolding rows_numbers
rows_append [] ys = refl
rows_append (x ∷ xs) ys = ap (λ (l : List ℕ). x.target ∷ x.query ∷ x.size ∷ l) (rows_append xs ys)

module _ (ts qs zs : List ℕ) where
  abbrev rows : List Row
  rows = table_of ts qs zs

  whole : take (rows_of ts qs zs) rows ≡ rows
  whole = take_all (rows_of ts qs zs) rows (omega (arith, table_length ts qs zs))

  row_next : (i : ℕ) → i < rows_of ts qs zs → drop i rows ≡ row_at ts qs zs i ∷ drop (i + 1) rows
  row_next i h = rw whole at (taken_cons (rows_of ts qs zs) ts qs zs (omega arith) (omega arith) (omega arith) i h)

  pub rows_next : (i : ℕ) → i < rows_of ts qs zs → words_bytes (rows_numbers (drop i rows)) ≡ words_bytes (rows_numbers (row_at ts qs zs i ∷ [])) ++ words_bytes (rows_numbers (drop (i + 1) rows))
  rows_next i h =
      rw (row_next i h, rows_append (row_at ts qs zs i ∷ []) (drop (i + 1) rows), words_append (rows_numbers (row_at ts qs zs i ∷ [])) (rows_numbers (drop (i + 1) rows)))

  pub rows_past : (i : ℕ) → rows_of ts qs zs ≤ i → words_bytes (rows_numbers (drop i rows)) ≡ []
  unfolding words_bytes rows_numbers
  rows_past i h = let l : length rows ≤ i = omega (arith, table_length ts qs zs) in rw (drop_of_length-le rows l)

  -- rows one by one
  module _ (i p at n : ℕ) (b b₀ : List ℕ) (is : n ≡ rows_of ts qs zs) (c : Completes (words_bytes (rows_numbers (drop i rows))) p b (words_bytes (rows_numbers rows)) at b₀) where
    pub rows_step : (q : ℕ) (b₁ : List ℕ) → i < n → Put (words_bytes (rows_numbers (row_as (get_or ts i 0) (get_or qs i 0) (get_or zs i 0) ∷ []))) p b b₁ q
        → Completes (words_bytes (rows_numbers (drop (i + 1) rows))) q b₁ (words_bytes (rows_numbers rows)) at b₀
    rows_step q b₁ h f =
        completes_step _ _ _ _ p q at b b₁ b₀ c (rows_next i (omega arith)) f

    pub rows_done : n ≤ i → p ≤ largest_place → length b ≤ largest_place → Put (words_bytes (rows_numbers rows)) at b₀ b p
    rows_done h l m = completes_done _ _ p at b b₀ c (rows_past i (omega arith)) l m

-- reading: the bytes above, then one below them
low_high : (s : List ℕ) (at n left most : ℕ) → 0 < left → left ≤ most → n ≡ low_at (most - left) s (at + left) → (b : ℕ) → ByteRead s (at + (left - 1)) b
    → b + 256 * n ≡ low_at (most - (left - 1)) s (at + (left - 1))
unfolding low_at
low_high s at n left most h l e b f =
    let k : most - (left - 1) ≡ suc (most - left) = omega arith in
    let j : suc (at + (left - 1)) ≡ at + left = omega arith in
    rw (k, j, f.is, e)

-- what the loop keeps: the number of the bytes read so far, which fits as many bytes
pub record Reading (s : List ℕ) (at most left n : ℕ) : Type 0 where
  pub few : left ≤ most
  pub word : most ≤ word_size
  pub is : n ≡ low_at (most - left) s (at + left)
  pub small : n < 256 ^ (most - left)

module _ (s : List ℕ) (at most left n b : ℕ) (r : Reading s at most left n) (h : 0 < left) (f : ByteRead s (at + (left - 1)) b) where
  power : 256 ^ (most - (left - 1)) ≡ 256 ^ (most - left) * 256
  power = let k : most - (left - 1) ≡ suc (most - left) = omega arith in rw k (pow-suc 256 (most - left))

  pub reading_step : Reading s at most (left - 1) (b + 256 * n)
  reading_step = record {
    few = omega arith;
    word = r.word;
    is = low_high s at n left most h r.few r.is b f;
    small = omega (arith, power, f.small, r.small);
  }

fits_word : (k n : ℕ) → k < word_size → n < 256 ^ k → n < 72057594037927936
fits_word zero n h l = omega (arith)
fits_word (suc zero) n h l = omega arith
fits_word (suc (suc zero)) n h l = omega arith
fits_word (suc (suc (suc zero))) n h l = omega arith
fits_word (suc (suc (suc (suc zero)))) n h l = omega arith
fits_word (suc (suc (suc (suc (suc zero))))) n h l = omega arith
fits_word (suc (suc (suc (suc (suc (suc zero)))))) n h l = omega arith
fits_word (suc (suc (suc (suc (suc (suc (suc k))))))) n h l = let z : k ≡ 0 = omega arith in let m = rw z at l in omega arith

-- another byte fits too
module _ (s : List ℕ) (at most left n : ℕ) (r : Reading s at most left n) (h : 0 < left) where
  small : n < 72057594037927936
  small = fits_word (most - left) n (omega arith) r.small

  pub times_fits : 256 * n < 2 ^ 64
  times_fits = omega (arith, small)

  pub sum_fits : (b : ℕ) → ByteRead s (at + (left - 1)) b → b + 256 * n < 2 ^ 64
  sum_fits b f = omega (arith, small, f.small)

pub reading_starts : (s : List ℕ) (at count most : ℕ) → most ≡ min count word_size → Reading s at most most 0
unfolding low_at
reading_starts s at count most e =
    let z : most - most ≡ 0 = omega arith in
    record { few = omega arith; word = omega arith; is = rw z; small = rw z (omega arith) }

pub reading_ends : (s : List ℕ) (at count most left n : ℕ) → most ≡ min count word_size → Reading s at most left n → left ≤ 0 → n ≡ low_at (min count word_size) s at
reading_ends s at count most left n e r h =
    let z : left ≡ 0 = omega arith in
    let a : most - left ≡ min count word_size = omega arith in
    let b : at + left ≡ at = omega arith in
    rw (a, b) at r.is

-- past the end there is no byte
none_there : (s : List ℕ) (i : ℕ) → length s ≤ i → 0 ≡ get_or s i 0
none_there [] i h = refl
none_there (x ∷ s) zero h = absurd (omega arith)
none_there (x ∷ s) (suc i) h = none_there s i (omega arith)

pub byte_past : (s : List ℕ) (at on : ℕ) → length s ≤ at → ByteRead s (at + on) 0
byte_past s at on h = record { is = none_there s (at + on) (omega arith); small = omega arith }

pub byte_far : (s : List ℕ) (at on : ℕ) → length s - at ≤ on → ByteRead s (at + on) 0
byte_far s at on h = record { is = none_there s (at + on) (omega arith); small = omega arith }

-- ---- eight bytes at once
low_first : (k : ℕ) (s : List ℕ) (i j : ℕ) → j ≡ suc i → low_at (suc k) s i ≡ get_or s i 0 + 256 * low_at k s j
unfolding low_at
low_first k s i j e = rw e

low_none : (s : List ℕ) (i : ℕ) → low_at 0 s i ≡ 0
unfolding low_at
low_none s i = refl

-- the number that a machine makes of eight bytes
pub word_loaded : (s : List ℕ) (at r : ℕ)
    → r ≡ from_le_bytes w64 (get_or s at 0 ∷ get_or s (at + 1) 0 ∷ get_or s (at + 2) 0 ∷ get_or s (at + 3) 0 ∷ get_or s (at + 4) 0 ∷ get_or s (at + 5) 0 ∷ get_or s (at + 6) 0 ∷ get_or s (at + 7) 0 ∷ [])
    → r ≡ low_at word_size s at
word_loaded s at r e =
    omega (
      arith,
      low_first 7 s at (at + 1) (omega arith),
      low_first 6 s (at + 1) (at + 2) (omega arith),
      low_first 5 s (at + 2) (at + 3) (omega arith),
      low_first 4 s (at + 3) (at + 4) (omega arith),
      low_first 3 s (at + 4) (at + 5) (omega arith),
      low_first 2 s (at + 5) (at + 6) (omega arith),
      low_first 1 s (at + 6) (at + 7) (omega arith),
      low_first 0 s (at + 7) (at + 8) (omega arith),
      low_none s (at + 8),
    )
