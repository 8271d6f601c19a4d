-- Numbers and rows stored as whole words, which there is room for. Assumes nothing.
use mathlib.Core.Path.{◌≡◌, refl, sym, ap, ◌∙◌}
use mathlib.Core.Bool.{Bool, true, false}
use mathlib.Core.List.{List, [], ◌∷◌, ◌++◌}
use Prim.Native.Nat.{ℕ, zero, suc, ◌+◌, ◌-◌, ◌*◌, ◌/◌, ◌%◌, ◌^◌, ◌≤◌, ◌<◌}
use native.Mathlib.Omega.{arith}
use native.Mathlib.Nat.{pow-suc, div-div-eq-div-mul}
use lib.Dec.{leb}
use lib.ListN.{length, get_or, drop}
use lib.Seq.{sets, length-sets}
use borrow.Rule.Slice.PartMut.{put_mid}
use Rattle.std.specs.Int.{w64, bytes_low_first, to_le_bytes}
use borrow.Author.Tests.{leb-true, leb-false, le-leb, lt-leb}
use Rattle.ledger.specs.Limits.{largest_place}
use Rattle.blocks.specs.Blocks.{rows_of}
use Rattle.blocks.specs.Rows.{row_as, table_of}
use Rattle.blocks.proofs.TableLaws.{table_length}
use Rattle.writing.specs.Puts.{Put}
use Rattle.writing.proofs.PutLaws.{sets_append}
use Rattle.writing.proofs.StoreLaws.{store_copied}
use Rattle.binary.specs.Bytes.{low_bytes, word_size, words_bytes, rows_numbers}
use Rattle.binary.proofs.BackLaws.{low_length, words_length, rows_length}
use Rattle.binary.proofs.ByteLaws.{words_next, words_past, append_nil, rows_next, rows_past}

-- the bytes that a machine makes of a number are its lowest ones
low_from : (k i n : ℕ) → bytes_low_first i k n ≡ low_bytes k (n / 256 ^ i)
unfolding low_bytes
low_from zero i n = refl
low_from (suc k) zero n =
    let e : n / 256 ^ 0 ≡ n = omega arith in
    rw e (ap (λ (l : List ℕ). n % 256 ∷ l) (low_from k 1 n))
low_from (suc k) (suc i) n =
    let e : n / 256 ^ suc (suc i) ≡ n / 256 ^ suc i / 256 = rw (pow-suc 256 (suc i)) (sym (div-div-eq-div-mul n (256 ^ suc i) 256)) in
    ap (λ (l : List ℕ). n / 256 ^ suc i % 256 ∷ l) (rw e at (low_from k (suc (suc i)) n))

-- a copy of them over the part of the buffer from a place on
pub word_stored : (at n k : ℕ) (b bs : List ℕ) → at + word_size ≤ length b → k ≡ word_size → bs ≡ to_le_bytes w64 n → put_mid at k b bs ≡ sets b at (low_bytes word_size n)
word_stored at n k b bs h m e =
    let l : length (low_bytes word_size n) ≡ word_size = low_length word_size n in
    let o : n / 256 ^ 0 ≡ n = omega arith in
    store_copied (low_bytes word_size n) at k b bs (omega (arith, l)) (omega (arith, l)) (e ∙ rw o at (low_from word_size 0 n))

-- what the loop over numbers keeps: storing those that are left makes the whole
pub record Storing (vs : List ℕ) (at : ℕ) (b₀ : List ℕ) (i : ℕ) (b : List ℕ) : Type 0 where
  pub few : i ≤ length vs
  pub long : length b ≡ length b₀
  pub rest : sets b (at + word_size * i) (words_bytes (drop i vs)) ≡ sets b₀ at (words_bytes vs)

pub storing_starts : (vs : List ℕ) (at : ℕ) (b : List ℕ) → Storing vs at b 0 b
storing_starts vs at b =
    let z : at + word_size * 0 ≡ at = omega arith in
    record { few = omega arith; long = refl; rest = rw z }

module _ (vs : List ℕ) (at : ℕ) (b₀ : List ℕ) (i : ℕ) (b : List ℕ) (s : Storing vs at b₀ i b) where
  pub storing_step : (b₁ : List ℕ) → i < length vs → b₁ ≡ sets b (at + word_size * i) (low_bytes word_size (get_or vs i 0)) → Storing vs at b₀ (i + 1) b₁
  storing_step b₁ h e =
      let v = low_bytes word_size (get_or vs i 0) in
      let n : at + word_size * (i + 1) ≡ at + word_size * i + length v = omega (arith, low_length word_size (get_or vs i 0)) in
      record {
        few = omega arith;
        long = rw e (length-sets b (at + word_size * i) v ∙ s.long);
        rest = rw (n, e, sets_append b (at + word_size * i) v (words_bytes (drop (i + 1) vs)), ← words_next vs i h) s.rest;
      }

  pub storing_ends : length vs ≤ i → b ≡ sets b₀ at (words_bytes vs)
  storing_ends h = rw (words_past vs i h) at s.rest

-- the three numbers of a row
pub row_stored : (t q z at : ℕ) (b b₁ b₂ b₃ : List ℕ) → b₁ ≡ sets b at (low_bytes word_size t) → b₂ ≡ sets b₁ (at + word_size) (low_bytes word_size q) → b₃ ≡ sets b₂ (at + 2 * word_size) (low_bytes word_size z)
    → b₃ ≡ sets b at (words_bytes (rows_numbers (row_as t q z ∷ [])))
unfolding words_bytes rows_numbers
row_stored t q z at b b₁ b₂ b₃ e f g =
    let x = low_bytes word_size t in
    let y = low_bytes word_size q in
    let w = low_bytes word_size z in
    let m : at + word_size ≡ at + length x = omega (arith, low_length word_size t) in
    let n : at + 2 * word_size ≡ at + length x + length y = omega (arith, low_length word_size t, low_length word_size q) in
    rw (append_nil w, ← (sets_append b at x (y ++ w)), ← (sets_append (sets b at x) (at + length x) y w), ← n, ← m, ← e, ← f) g

-- what the loop over rows keeps
module _ (ts qs zs : List ℕ) (at : ℕ) (b₀ : List ℕ) where
  pub record RowsStoring (i : ℕ) (b : List ℕ) : Type 0 where
    pub few : i ≤ rows_of ts qs zs
    pub long : length b ≡ length b₀
    pub rest : sets b (at + 3 * word_size * i) (words_bytes (rows_numbers (drop i (table_of ts qs zs)))) ≡ sets b₀ at (words_bytes (rows_numbers (table_of ts qs zs)))

  pub rows_start : RowsStoring 0 b₀
  rows_start = let z : at + 3 * word_size * 0 ≡ at = omega arith in record { few = omega arith; long = refl; rest = rw z }

  module _ (i n : ℕ) (b : List ℕ) (s : RowsStoring i b) (is : n ≡ rows_of ts qs zs) where
    pub rows_store : (b₁ : List ℕ) → i < n → b₁ ≡ sets b (at + 3 * word_size * i) (words_bytes (rows_numbers (row_as (get_or ts i 0) (get_or qs i 0) (get_or zs i 0) ∷ []))) → RowsStoring (i + 1) b₁
    rows_store b₁ h e =
        let r = row_as (get_or ts i 0) (get_or qs i 0) (get_or zs i 0) ∷ [] in
        let v = words_bytes (rows_numbers r) in
        let m : at + 3 * word_size * (i + 1) ≡ at + 3 * word_size * i + length v = omega (arith, words_length (rows_numbers r), rows_length r) in
        record {
          few = omega arith;
          long = rw e (length-sets b (at + 3 * word_size * i) v ∙ s.long);
          rest = rw (m, e, sets_append b (at + 3 * word_size * i) v (words_bytes (rows_numbers (drop (i + 1) (table_of ts qs zs)))), ← rows_next ts qs zs i (omega arith)) s.rest;
        }

    pub rows_stored : n ≤ i → b ≡ sets b₀ at (words_bytes (rows_numbers (table_of ts qs zs)))
    rows_stored h = rw (rows_past ts qs zs i (omega arith)) at s.rest

-- room for so many words, told by a quotient
module _ (n at words : ℕ) where
  pub room_none : n < at → false ≡ leb (at + word_size * words) n
  room_none h = sym (lt-leb (at + word_size * words) n (omega arith))

  pub room_is : at ≤ n → leb words ((n - at) / word_size) ≡ leb (at + word_size * words) n
  room_is h = go (leb words ((n - at) / word_size)) refl
    where
      go : (t : Bool) → leb words ((n - at) / word_size) ≡ t → t ≡ leb (at + word_size * words) n
      go true e = sym (le-leb (at + word_size * words) n (omega (arith, leb-true words ((n - at) / word_size) e)))
      go false e = sym (lt-leb (at + word_size * words) n (omega (arith, leb-false words ((n - at) / word_size) e)))

  pub room_there : (r : Bool) → r ≡ leb (at + word_size * words) n → r ≡ true → at + word_size * words ≤ n
  room_there r e t = leb-true (at + word_size * words) n (sym e ∙ t)

-- words stored where there is room are put
pub words_put : (vs : List ℕ) (at : ℕ) (b b₁ : List ℕ) → at + word_size * length vs ≤ length b → length b ≤ largest_place → b₁ ≡ sets b at (words_bytes vs)
    → Put (words_bytes vs) at b b₁ (at + word_size * length vs)
words_put vs at b b₁ h l e = record { next = omega (arith, words_length vs); stored = e; room = l }

pub rows_put : (ts qs zs : List ℕ) (at n : ℕ) (b b₁ : List ℕ) → n ≡ rows_of ts qs zs → at + word_size * (3 * n) ≤ length b → length b ≤ largest_place → b₁ ≡ sets b at (words_bytes (rows_numbers (table_of ts qs zs)))
    → Put (words_bytes (rows_numbers (table_of ts qs zs))) at b b₁ (at + 3 * word_size * n)
rows_put ts qs zs at n b b₁ is h l e =
    let m : length (words_bytes (rows_numbers (table_of ts qs zs))) ≡ 3 * word_size * n = omega (arith, words_length (rows_numbers (table_of ts qs zs)), rows_length (table_of ts qs zs), table_length ts qs zs) in
    record { next = omega (arith, m); stored = e; room = l }
