-- A table of three flat slices, row by row; and back to its flat lists. Assumes nothing.
use mathlib.Core.Path.{◌≡◌, refl, sym, ap, ◌∙◌}
use mathlib.Core.List.{List, [], ◌∷◌, ◌++◌, map}
use Prim.Native.Nat.{ℕ, zero, suc, ◌+◌, ◌≤◌, ◌<◌, min}
use native.Mathlib.Numerals.{add-one}
use native.Mathlib.Omega.{arith}
use lib.ListN.{length, take, drop, get_or, length-take, length-map, drop_of_length-le, get_or-map}
use lib.Seq.{drop-cons, get_or-take, length-take-le, ext_get_or}
use Rattle.ledger.specs.declared.Row.{Row}
use Rattle.blocks.specs.Rows.{row_as, table_of, targets_of, queries_of, sizes_of, no_row, row_at}

pub table_length : (ts qs zs : List ℕ) → length (table_of ts qs zs) ≡ min (length ts) (min (length qs) (length zs))
unfolding table_of
table_length [] qs zs = omega arith
table_length (x ∷ ts) [] zs = omega arith
table_length (x ∷ ts) (y ∷ qs) [] = omega arith
table_length (x ∷ ts) (y ∷ qs) (z ∷ zs) = omega (arith, table_length ts qs zs)

table_at : (ts qs zs : List ℕ) (i : ℕ) → i < length ts → i < length qs → i < length zs → get_or (table_of ts qs zs) i no_row ≡ row_at ts qs zs i
unfolding table_of
table_at [] qs zs i h k l = absurd (omega arith)
table_at (x ∷ ts) [] zs i h k l = absurd (omega arith)
table_at (x ∷ ts) (y ∷ qs) [] i h k l = absurd (omega arith)
table_at (x ∷ ts) (y ∷ qs) (z ∷ zs) zero h k l = refl
table_at (x ∷ ts) (y ∷ qs) (z ∷ zs) (suc i) h k l = table_at ts qs zs i (omega arith) (omega arith) (omega arith)

-- the first n rows of three slices that have as many
abbrev pub taken : ℕ → List ℕ → List ℕ → List ℕ → List Row
taken n ts qs zs = take n (table_of ts qs zs)

module _ (n : ℕ) (ts qs zs : List ℕ) (ht : n ≤ length ts) (hq : n ≤ length qs) (hz : n ≤ length zs) where
  pub taken_length : length (taken n ts qs zs) ≡ n
  taken_length = omega (arith, length-take n (table_of ts qs zs), table_length ts qs zs)

  pub taken_at : (i : ℕ) → i < n → get_or (taken n ts qs zs) i no_row ≡ row_at ts qs zs i
  taken_at i h = get_or-take n (table_of ts qs zs) i no_row h ∙ table_at ts qs zs i (omega arith) (omega arith) (omega arith)

  pub taken_cons : (i : ℕ) → i < n → drop i (taken n ts qs zs) ≡ row_at ts qs zs i ∷ drop (i + 1) (taken n ts qs zs)
  taken_cons i h =
      let l : i < length (taken n ts qs zs) = omega (arith, taken_length) in
      rw (add-one i, ← taken_at i h) (drop-cons (taken n ts qs zs) i no_row l)

  pub taken_end : (i : ℕ) → n ≤ i → drop i (taken n ts qs zs) ≡ []
  taken_end i h = let l : length (taken n ts qs zs) ≤ i = omega (arith, taken_length) in drop_of_length-le (taken n ts qs zs) l

-- a flat list of the table, the column g of its rows, begins with the numbers xs that the rows hold there
pub column_taken : (g : Row → ℕ) (xs : List ℕ) (n : ℕ) (ts qs zs : List ℕ) → g no_row ≡ 0 → n ≤ length xs → n ≤ length ts → n ≤ length qs → n ≤ length zs
    → ((i : ℕ) → i < n → g (row_at ts qs zs i) ≡ get_or xs i 0) → take n (map g (table_of ts qs zs)) ≡ take n xs
column_taken g xs n ts qs zs z hx ht hq hz e =
    let l : length (take n (map g (table_of ts qs zs))) ≡ n = length-take-le n (map g (table_of ts qs zs)) (omega (arith, length-map (table_of ts qs zs) g, table_length ts qs zs)) in
    let m : length (take n xs) ≡ n = length-take-le n xs hx in
    ext_get_or 0 (take n (map g (table_of ts qs zs))) (take n xs) (l ∙ sym m) (λ i h.
    let k : i < n = omega arith in
    get_or-take n (map g (table_of ts qs zs)) i 0 k
    ∙ ap (λ (d : ℕ). get_or (map g (table_of ts qs zs)) i d) (sym z)
    ∙ get_or-map g (table_of ts qs zs) i no_row
    ∙ ap g (table_at ts qs zs i (omega arith) (omega arith) (omega arith))
    ∙ e i k
    ∙ sym (get_or-take n xs i 0 k))

-- three slices that begin with the flat lists of some rows
table_front : (bs : List Row) (xs ys zs : List ℕ) → table_of (targets_of bs ++ xs) (queries_of bs ++ ys) (sizes_of bs ++ zs) ≡ bs ++ table_of xs ys zs
unfolding table_of
table_front [] xs ys zs = refl
table_front (b ∷ bs) xs ys zs = ap (λ (l : List Row). b ∷ l) (table_front bs xs ys zs)

take_at : (bs cs : List Row) (n : ℕ) → length bs ≡ n → take n (bs ++ cs) ≡ bs
take_at [] cs zero e = refl
take_at [] cs (suc n) e = absurd (omega arith)
take_at (b ∷ bs) cs zero e = absurd (omega arith)
take_at (b ∷ bs) cs (suc n) e = ap (λ (l : List Row). b ∷ l) (take_at bs cs n (omega arith))

pub stored_rows_lem : (n : ℕ) (bs : List Row) (xs ys zs : List ℕ) → length bs ≡ n → take n (table_of (targets_of bs ++ xs) (queries_of bs ++ ys) (sizes_of bs ++ zs)) ≡ bs
stored_rows_lem n bs xs ys zs e = ap (take n) (table_front bs xs ys zs) ∙ take_at bs (table_of xs ys zs) n e

-- a table is the table of its flat lists
pub table_back : (rows : List Row) → table_of (targets_of rows) (queries_of rows) (sizes_of rows) ≡ rows
unfolding table_of
table_back [] = refl
table_back (b ∷ rows) = ap (λ (l : List Row). b ∷ l) (table_back rows)

-- the first numbers of a column are the column of the first rows
pub take_map : (g : Row → ℕ) (n : ℕ) (rows : List Row) → take n (map g rows) ≡ map g (take n rows)
take_map g zero rows = refl
take_map g (suc n) [] = refl
take_map g (suc n) (b ∷ rows) = ap (λ (l : List ℕ). g b ∷ l) (take_map g n rows)

-- the first rows of three flat lists are the table of their fronts
pub table_take : (n : ℕ) (ts qs zs : List ℕ) → take n (table_of ts qs zs) ≡ table_of (take n ts) (take n qs) (take n zs)
unfolding table_of
table_take zero ts qs zs = refl
table_take (suc n) [] qs zs = refl
table_take (suc n) (t ∷ ts) [] zs = refl
table_take (suc n) (t ∷ ts) (q ∷ qs) [] = refl
table_take (suc n) (t ∷ ts) (q ∷ qs) (z ∷ zs) = ap (λ (l : List Row). row_as t q z ∷ l) (table_take n ts qs zs)
