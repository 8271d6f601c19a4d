-- A list that is filled from the front, one element at a time.
--     up_to f n         f 0, f 1, … , f (n - 1)
--     stored f ys n    ys after the stores of f 0 at 0, f 1 at 1, … , f (n - 1) at n - 1
--     stored_is        that is `up_to f n` and the rest of ys
--     up_to_same        `up_to` of functions that agree below n
--     up_to_map         `up_to` along a list is the list's front, mapped
--     rows_first       `up_to` along the rows of three columns is their first rows
-- Assumes nothing.
use mathlib.Core.Path.{◌≡◌, refl, sym, ◌∙◌, ap}
use mathlib.Core.List.{List, [], ◌∷◌, ◌++◌, map}
use Prim.Native.Nat.{ℕ, zero, suc, ◌+◌, ◌<◌, ◌≤◌}
use native.Mathlib.Omega.{arith}
use native.Mathlib.Nat.{add-zero, add-suc}
use native.Mathlib.Numerals.{add-one}
use lib.ListN.{length, take, drop, set, get_or, length-set, length-append, length-map}
use lib.Seq.{drop-cons, set_at, append_snoc, take-suc, take_all, length-take-le}
use Rattle.ledger.specs.declared.Row.{Row}
use Rattle.rows.specs.Staging.{first_rows, front_stored}
use Rattle.blocks.specs.Rows.{table_of, no_row, row_at}
use Rattle.blocks.proofs.TableLaws.{taken, taken_length, taken_at}

module _ {X : Type 0} where
  unfoldable pub up_to : (ℕ → X) → ℕ → List X
  up_to f zero = []
  up_to f (suc n) = up_to f n ++ (f n ∷ [])

  abbrev pub stored : (ℕ → X) → List X → ℕ → List X
  stored f ys zero = ys
  stored f ys (suc n) = set (stored f ys n) n (f n)

  pub length_stored : (f : ℕ → X) (ys : List X) (n : ℕ) → length (stored f ys n) ≡ length ys
  length_stored f ys zero = refl
  length_stored f ys (suc n) = length-set (stored f ys n) n (f n) ∙ length_stored f ys n

  pub length_up_to : (f : ℕ → X) (n : ℕ) → length (up_to f n) ≡ n
  unfolding up_to
  length_up_to f zero = refl
  length_up_to f (suc n) = length-append (up_to f n) (f n ∷ []) ∙ add-suc (length (up_to f n)) zero ∙ ap suc (add-zero (length (up_to f n)) ∙ length_up_to f n)

  pub stored_is : (f : ℕ → X) (ys : List X) (n : ℕ) → n ≤ length ys → stored f ys n ≡ up_to f n ++ drop n ys
  unfolding up_to
  stored_is f ys zero h = refl
  stored_is f ys (suc n) h =
      ap (λ (l : List X). set l n (f n)) (stored_is f ys n (omega arith) ∙ ap (λ (l : List X). up_to f n ++ l) (drop-cons ys n (f n) (omega arith)))
      ∙ set_at (up_to f n) (get_or ys n (f n)) (drop (suc n) ys) (f n) n (length_up_to f n)
      ∙ sym (append_snoc (up_to f n) (f n) (drop (suc n) ys))

  pub up_to_same : (f g : ℕ → X) (n : ℕ) → ((k : ℕ) → k < n → f k ≡ g k) → up_to f n ≡ up_to g n
  unfolding up_to
  up_to_same f g zero h = refl
  up_to_same f g (suc n) h = ap (λ (l : List X). l ++ (f n ∷ [])) (up_to_same f g n (λ k b. h k (omega arith))) ∙ ap (λ (x : X). up_to g n ++ (x ∷ [])) (h n (omega arith))

up_to_suc : {X : Type 0} (f : ℕ → X) (n : ℕ) → up_to f (suc n) ≡ up_to f n ++ (f n ∷ [])
unfolding up_to
up_to_suc f n = refl

map_snoc : {X Y : Type 0} (g : X → Y) (xs : List X) (x : X) → map g (xs ++ (x ∷ [])) ≡ map g xs ++ (g x ∷ [])
map_snoc g [] x = refl
map_snoc {X} {Y} g (y ∷ ys) x = ap (λ (l : List Y). g y ∷ l) (map_snoc g ys x)

pub up_to_map : {X Y : Type 0} (g : X → Y) (d : X) (rs : List X) (n : ℕ) → n ≤ length rs → up_to (λ (i : ℕ). g (get_or rs i d)) n ≡ map g (take n rs)
unfolding up_to
up_to_map g d rs zero h = refl
up_to_map {X} {Y} g d rs (suc n) h =
    ap (λ (l : List Y). l ++ (g (get_or rs n d) ∷ [])) (up_to_map g d rs n (omega arith)) ∙ sym (map_snoc g (take n rs) (get_or rs n d))
    ∙ ap (map g) (sym (take-suc rs n d (omega arith)))

up_to_take : {X : Type 0} (d : X) (rs : List X) (n : ℕ) → n ≤ length rs → up_to (λ (i : ℕ). get_or rs i d) n ≡ take n rs
unfolding up_to
up_to_take d rs zero h = refl
up_to_take {X} d rs (suc n) h = ap (λ (l : List X). l ++ (get_or rs n d ∷ [])) (up_to_take d rs n (omega arith)) ∙ sym (take-suc rs n d (omega arith))

pub rows_first : (n : ℕ) (ts qs zs : List ℕ) → n ≤ length ts → n ≤ length qs → n ≤ length zs → up_to (row_at ts qs zs) n ≡ take n (table_of ts qs zs)
rows_first n ts qs zs ht hq hz =
    let l = taken_length n ts qs zs ht hq hz in
    let h : n ≤ length (taken n ts qs zs) = omega (arith, l) in
    up_to_same (row_at ts qs zs) (λ (i : ℕ). get_or (taken n ts qs zs) i no_row) n (λ i b. sym (taken_at n ts qs zs ht hq hz i b))
    ∙ up_to_take no_row (taken n ts qs zs) n h ∙ take_all n (taken n ts qs zs) (omega (arith, l))

-- a list with n elements xs at its front, and one more stored behind them
snoc_stored : {X : Type 0} (xs ys : List X) (x d : X) (n : ℕ) → length xs ≡ n → n < length ys → set (xs ++ drop n ys) n x ≡ (xs ++ (x ∷ [])) ++ drop (suc n) ys
snoc_stored {X} xs ys x d n e h =
    ap (λ (l : List X). set (xs ++ l) n x) (drop-cons ys n d h)
    ∙ set_at xs (get_or ys n d) (drop (suc n) ys) x n e
    ∙ sym (append_snoc xs x (drop (suc n) ys))

-- a field of one more row, stored behind those of the first n
pub front_more : {Y : Type 0} (g : Row → Y) (rows : List Row) (d : Row) (ys ys' : List Y) (n : ℕ) → n < length rows → n < length ys → ys' ≡ map g (take n rows) ++ drop n ys
    → set ys' n (g (get_or rows n d)) ≡ map g (take (n + 1) rows) ++ drop (n + 1) ys
front_more {Y} g rows d ys ys' n h l e =
    let k : length (map g (take n rows)) ≡ n = length-map (take n rows) g ∙ length-take-le n rows (omega arith) in
    let s : map g (take (suc n) rows) ≡ map g (take n rows) ++ (g (get_or rows n d) ∷ []) = ap (map g) (take-suc rows n d h) ∙ map_snoc g (take n rows) (get_or rows n d) in
    rw (add-one n) (ap (λ (l' : List Y). set l' n (g (get_or rows n d))) e ∙ snoc_stored (map g (take n rows)) ys (g (get_or rows n d)) (g d) n k l ∙ ap (λ (l' : List Y). l' ++ drop (suc n) ys) (sym s))

-- one more row of three columns, stored behind the first n
pub rows_more : (n : ℕ) (ts qs zs : List ℕ) (rows rows' : List Row) → n < length ts → n < length qs → n < length zs → n < length rows → rows' ≡ front_stored n ts qs zs rows
    → set rows' n (row_at ts qs zs n) ≡ front_stored (n + 1) ts qs zs rows
rows_more n ts qs zs rows rows' ht hq hz hr e =
    let a : up_to (row_at ts qs zs) n ≡ first_rows n ts qs zs = rows_first n ts qs zs (omega arith) (omega arith) (omega arith) in
    let b : up_to (row_at ts qs zs) (suc n) ≡ first_rows (suc n) ts qs zs = rows_first (suc n) ts qs zs (omega arith) (omega arith) (omega arith) in
    let k : length (first_rows n ts qs zs) ≡ n = ap length (sym a) ∙ length_up_to (row_at ts qs zs) n in
    let s : first_rows (suc n) ts qs zs ≡ first_rows n ts qs zs ++ (row_at ts qs zs n ∷ []) = sym b ∙ up_to_suc (row_at ts qs zs) n ∙ ap (λ (l : List Row). l ++ (row_at ts qs zs n ∷ [])) a in
    rw (add-one n) (ap (λ (l : List Row). set l n (row_at ts qs zs n)) e ∙ snoc_stored (first_rows n ts qs zs) rows (row_at ts qs zs n) no_row n k hr ∙ ap (λ (l : List Row). l ++ drop (suc n) rows) (sym s))
