-- Rows staged in three columns: what the columns hold, what a table holds after them, and that no test of a record sees past the columns' room.
-- Assumes nothing.
use mathlib.Core.Path.{◌≡◌, refl, sym, ap, subst, ◌∙◌}
use mathlib.Core.Bool.{Bool, false}
use mathlib.Core.List.{List, [], ◌∷◌, ◌++◌, map}
use Prim.Native.Nat.{ℕ, zero, suc, ◌+◌, ◌≤◌, ◌<◌, min}
use native.Mathlib.Omega.{arith}
use lib.ListN.{length, take, drop, length-map, length-append, length-drop}
use lib.Seq.{sets, sets-eq, length-sets, take_all, take-take, take-append-le, take-append_seam, length-take-le}
use lib.Dec.{leb}
use borrow.Author.Tests.{le-leb, lt-leb}
use borrow.Rule.Slice.PartMut.{put_mid, same_len_mid}
use Rattle.ledger.specs.Limits.{block_limit}
use Rattle.ledger.specs.declared.Row.{Row}
use Rattle.text.proofs.Laws.{either}
use Rattle.blocks.specs.Blocks.{rows_of, count_fits}
use Rattle.blocks.specs.Rows.{table_of, targets_of, queries_of, sizes_of}
use Rattle.blocks.proofs.TableLaws.{table_length, table_take, column_taken, table_back}
use Rattle.rows.specs.Staging.{all_reach, Loaded, staged_rows, front_stored, stored_rows, Columns, Fronts}

-- A TABLE AFTER A CALL: the rows of the columns' fronts, and past them what it held
pub fronts_stored : (n : ℕ) (xs ys ws ts qs zs : List ℕ) (rows : List Row) → Fronts n (length rows) xs ys ws ts qs zs → stored_rows n ts qs zs rows ≡ table_of xs ys ws ++ drop n rows
fronts_stored n xs ys ws ts qs zs rows h =
    let m : min n (all_reach (length rows) ts qs zs) ≡ n = omega (arith, h.fits, h.reach) in
    ap (λ (k : ℕ). front_stored k ts qs zs rows) m ∙ rw (table_take n ts qs zs, h.targets, h.queries, h.sizes)

pub none_stored : (ts qs zs : List ℕ) (rows : List Row) → stored_rows 0 ts qs zs rows ≡ rows
none_stored ts qs zs rows = let m : min 0 (all_reach (length rows) ts qs zs) ≡ 0 = omega arith in ap (λ (k : ℕ). front_stored k ts qs zs rows) m

-- a column of which a part from its front was lent, and numbers were stored at the part's front
front_kept : (c m : ℕ) (xs ts y : List ℕ) → length xs ≡ c → c ≤ m → m ≤ length ts → y ≡ sets (take m (drop 0 ts)) 0 xs → take c (put_mid 0 m ts y) ≡ xs
front_kept c m xs ts y e h k ey =
    let l : length (take m ts) ≡ m = length-take-le m ts k in
    let q : y ≡ xs ++ drop (0 + length xs) (take m ts) = ey ∙ sets-eq xs (take m ts) 0 (omega arith) in
    let p : take c (xs ++ drop (0 + length xs) (take m ts)) ≡ xs = rw (← e) (take-append_seam xs (drop (0 + length xs) (take m ts))) in
    let n : c ≤ length y = omega (arith, ap length ey, length-sets (take m ts) 0 xs) in
    take-append-le c y _ n ∙ ap (take c) q ∙ p

part_length : (m : ℕ) (xs ts y : List ℕ) → y ≡ sets (take m (drop 0 ts)) 0 xs → length (put_mid 0 m ts y) ≡ length ts
part_length m xs ts y e = same_len_mid 0 m ts y (ap length e ∙ length-sets (take m ts) 0 xs)

-- the columns after a reader stored c rows in the part of them that a table of so many rows may fill
pub fronts_made : (c rows m : ℕ) (xs ys ws ts qs zs t q z : List ℕ) → Columns ts qs zs → m ≡ min rows block_limit → c ≤ m → length xs ≡ c → length ys ≡ c → length ws ≡ c
    → t ≡ sets (take m (drop 0 ts)) 0 xs → q ≡ sets (take m (drop 0 qs)) 0 ys → z ≡ sets (take m (drop 0 zs)) 0 ws
    → Fronts c rows xs ys ws (put_mid 0 m ts t) (put_mid 0 m qs q) (put_mid 0 m zs z)
fronts_made c rows m xs ys ws ts qs zs t q z room em few ex ey ew et eq ez =
    let a = part_length m xs ts t et in
    let b = part_length m ys qs q eq in
    let d = part_length m ws zs z ez in
    let ht : m ≤ length ts = omega (arith, room.targets) in
    let hq : m ≤ length qs = omega (arith, room.queries) in
    let hz : m ≤ length zs = omega (arith, room.sizes) in
    record {
      fits = omega arith;
      reach = omega (arith, ht, hq, hz, a, b, d);
      targets = front_kept c m xs ts t ex few ht et;
      queries = front_kept c m ys qs q ey few hq eq;
      sizes = front_kept c m ws zs z ew few hz ez;
    }

-- a column that was loaded with a field of rows
loaded_front : (f : Row → ℕ) (m : ℕ) (rows : List Row) (ts : List ℕ) → m ≤ length rows → take m (map f (take m rows) ++ drop m ts) ≡ map f (take m rows)
loaded_front f m rows ts h =
    let l : length (map f (take m rows)) ≡ m = length-map (take m rows) f ∙ length-take-le m rows h in
    ap (λ (k : ℕ). take k (map f (take m rows) ++ drop m ts)) (sym l) ∙ take-append_seam (map f (take m rows)) (drop m ts)

module _ (rows : List Row) (ts ts' qs qs' zs zs' : List ℕ) (room : Columns ts qs zs) (h : Loaded (all_reach (length rows) ts qs zs) rows ts ts' qs qs' zs zs') where
  abbrev part : ℕ
  part = min (length rows) block_limit

  all_part : all_reach (length rows) ts qs zs ≡ part
  all_part = omega (arith, room.targets, room.queries, room.sizes)

  loaded : Loaded part rows ts ts' qs qs' zs zs'
  loaded = subst (λ (k : ℕ). Loaded k rows ts ts' qs qs' zs zs') all_part h

  pub loaded_targets : take part ts' ≡ targets_of (take part rows)
  loaded_targets = ap (take part) loaded.targets ∙ loaded_front (λ (b : Row). b.target) part rows ts (omega arith)

  pub loaded_queries : take part qs' ≡ queries_of (take part rows)
  loaded_queries = ap (take part) loaded.queries ∙ loaded_front (λ (b : Row). b.query) part rows qs (omega arith)

  pub loaded_sizes : take part zs' ≡ sizes_of (take part rows)
  loaded_sizes = ap (take part) loaded.sizes ∙ loaded_front (λ (b : Row). b.size) part rows zs (omega arith)

-- a count up to the block limit fits into the rows that are staged exactly when it fits into the table
pub room_cut : (n rows : ℕ) → n ≤ block_limit → leb n (min rows block_limit) ≡ leb n rows
room_cut n rows h = either n rows _ (λ k. le-leb n (min rows block_limit) (omega arith) ∙ sym (le-leb n rows k)) (λ k. lt-leb n (min rows block_limit) (omega arith) ∙ sym (lt-leb n rows k))

map_take : (f : Row → ℕ) (n : ℕ) (rows : List Row) → map f (take n rows) ≡ take n (map f rows)
map_take f zero rows = refl
map_take f (suc n) [] = refl
map_take f (suc n) (b ∷ rows) = ap (λ (l : List ℕ). f b ∷ l) (map_take f n rows)

field_cut : (f : Row → ℕ) (n : ℕ) (rows : List Row) → n ≤ block_limit → take n (map f (take (min (length rows) block_limit) rows)) ≡ take n (map f rows)
field_cut f n rows h =
    either (length rows) block_limit _
    (λ k. ap (λ (l : List Row). take n (map f l)) (take_all (min (length rows) block_limit) rows (omega arith)))
    (λ k. ap (take n) (map_take f (min (length rows) block_limit) rows) ∙ take-take n (min (length rows) block_limit) (map f rows) (omega arith))

-- the rows of a table that are staged
abbrev pub cut_rows : List Row → List Row
cut_rows rows = take (min (length rows) block_limit) rows

-- the rows of the parts of three columns that a table of so many rows fills
pub staged_parts : (rows n : ℕ) (ts qs zs : List ℕ) → n ≡ min rows block_limit → table_of (take n ts) (take n qs) (take n zs) ≡ staged_rows rows ts qs zs
staged_parts rows n ts qs zs e = rw (e, table_take (min rows block_limit) ts qs zs)

-- three columns that a table was loaded into hold its first rows
pub staged_loaded : (rows : List Row) (ts ts' qs qs' zs zs' : List ℕ) → Columns ts qs zs → Loaded (all_reach (length rows) ts qs zs) rows ts ts' qs qs' zs zs'
    → staged_rows (length rows) ts' qs' zs' ≡ cut_rows rows
staged_loaded rows ts ts' qs qs' zs zs' room h =
    table_take (min (length rows) block_limit) ts' qs' zs'
    ∙ rw (loaded_targets rows ts ts' qs qs' zs zs' room h, loaded_queries rows ts ts' qs qs' zs zs' room h, loaded_sizes rows ts ts' qs qs' zs zs' room h) (table_back (cut_rows rows))

-- the flat lists of a table have as many numbers as it has rows
table_rows_lem : (l : List Row) → rows_of (targets_of l) (queries_of l) (sizes_of l) ≡ length l
table_rows_lem l = omega (arith, length-map l (λ (b : Row). b.target), length-map l (λ (b : Row). b.query), length-map l (λ (b : Row). b.size))

-- NO MORE ROWS THAN A RECORD MAY HAVE: what looks at whether a count fits and, where it does, at so many first rows, says the same of the rows that are staged
-- as of the table
module _ {X : Type 0} (g : Bool → List ℕ → List ℕ → List ℕ → X) (blind : (a b c d e f : List ℕ) → g false a b c ≡ g false d e f) (n : ℕ) (rows : List Row) where
  abbrev pub seen : List Row → X
  seen l = g (count_fits n (rows_of (targets_of l) (queries_of l) (sizes_of l))) (take n (targets_of l)) (take n (queries_of l)) (take n (sizes_of l))

  none_fits : (k : ℕ) → block_limit < n → count_fits n k ≡ false
  none_fits k h = rw (le-leb 1 n (omega arith), lt-leb n block_limit h)

  pub rows_cut : seen (cut_rows rows) ≡ seen rows
  rows_cut =
      let e : length (cut_rows rows) ≡ min (length rows) block_limit = length-take-le (min (length rows) block_limit) rows (omega arith) in
      either n block_limit _
      (λ h. rw (table_rows_lem (cut_rows rows), table_rows_lem rows, e, room_cut n (length rows) h, field_cut (λ (b : Row). b.target) n rows h, field_cut (λ (b : Row). b.query) n rows h, field_cut (λ (b : Row). b.size) n rows h))
      (λ h. rw (none_fits (rows_of (targets_of (cut_rows rows)) (queries_of (cut_rows rows)) (sizes_of (cut_rows rows))) h, none_fits (rows_of (targets_of rows) (queries_of rows) (sizes_of rows)) h) (blind _ _ _ _ _ _))

-- the part of a column that a table of so many rows may fill has as many numbers
pub part_count : (n rows : ℕ) (ts : List ℕ) → n ≡ min rows block_limit → length ts ≡ block_limit → n ≡ length (take n ts)
part_count n rows ts e h = sym (length-take-le n ts (omega arith))

pub columns_of : (ts qs zs : List ℕ) → length ts ≡ block_limit → length qs ≡ block_limit → length zs ≡ block_limit → Columns ts qs zs
columns_of ts qs zs a b c = record { targets = a; queries = b; sizes = c }

-- the first n rows of a table, from its flat lists
pub table_front : (n : ℕ) (rows : List Row) → table_of (take n (targets_of rows)) (take n (queries_of rows)) (take n (sizes_of rows)) ≡ take n rows
table_front n rows = sym (table_take n (targets_of rows) (queries_of rows) (sizes_of rows)) ∙ ap (take n) (table_back rows)

map_append : (f : Row → ℕ) (bs cs : List Row) → map f (bs ++ cs) ≡ map f bs ++ map f cs
map_append f [] cs = refl
map_append f (b ∷ bs) cs = ap (λ (l : List ℕ). f b ∷ l) (map_append f bs cs)

-- a table with the rows of three lists at its front: the flat lists begin with them, and the table has the length that it had
module _ (n : ℕ) (xs ys ws : List ℕ) (before : List Row) (hx : length xs ≡ n) (hy : length ys ≡ n) (hw : length ws ≡ n) where
  abbrev put : List Row
  put = table_of xs ys ws ++ drop n before

  count : length (table_of xs ys ws) ≡ n
  count = omega (arith, table_length xs ys ws)

  pub put_length : n ≤ length before → length put ≡ length before
  put_length h = length-append (table_of xs ys ws) (drop n before) ∙ omega (arith, count, length-drop n before)

  kept : (f : Row → ℕ) (l : List ℕ) → take n (map f (table_of xs ys ws)) ≡ take n l → length l ≡ n → take n (map f put) ≡ l
  kept f l e h =
      let k : length (map f (table_of xs ys ws)) ≡ n = length-map (table_of xs ys ws) f ∙ count in
      ap (take n) (map_append f (table_of xs ys ws) (drop n before)) ∙ take-append-le n (map f (table_of xs ys ws)) _ (omega arith) ∙ e ∙ take_all n l (omega arith)

  pub put_targets : take n (targets_of put) ≡ xs
  put_targets = kept (λ (b : Row). b.target) xs (column_taken (λ (b : Row). b.target) xs n xs ys ws refl (omega arith) (omega arith) (omega arith) (omega arith) (λ i k. refl)) hx

  pub put_queries : take n (queries_of put) ≡ ys
  put_queries = kept (λ (b : Row). b.query) ys (column_taken (λ (b : Row). b.query) ys n xs ys ws refl (omega arith) (omega arith) (omega arith) (omega arith) (λ i k. refl)) hy

  pub put_sizes : take n (sizes_of put) ≡ ws
  put_sizes = kept (λ (b : Row). b.size) ws (column_taken (λ (b : Row). b.size) ws n xs ys ws refl (omega arith) (omega arith) (omega arith) (omega arith) (λ i k. refl)) hw

  -- so what looks at whether the count fits and at so many first rows says the same of the table as of the lists
  pub put_same : {X : Type 0} (g : Bool → List ℕ → List ℕ → List ℕ → X) → n ≤ length before
      → g (count_fits n (rows_of (targets_of put) (queries_of put) (sizes_of put))) (take n (targets_of put)) (take n (queries_of put)) (take n (sizes_of put))
      ≡ g (count_fits n (rows_of xs ys ws)) (take n xs) (take n ys) (take n ws)
  put_same g h =
      let e : rows_of xs ys ws ≡ n = omega arith in
      let l : leb n (length put) ≡ leb n n = le-leb n (length put) (omega (arith, put_length h)) ∙ sym (le-leb n n (omega arith)) in
      rw (table_rows_lem put, l, e, put_targets, put_queries, put_sizes, take_all n xs (omega arith), take_all n ys (omega arith), take_all n ws (omega arith))
