-- A table whose first rows were filled from three columns of one length has just their rows; and a table with rows at its front, copied out to three columns, leaves
-- them at the columns' fronts. Assumes nothing.
use mathlib.Core.Path.{◌≡◌, refl, sym, ap, ◌∙◌}
use mathlib.Core.List.{List, ◌++◌, append_assoc, map}
use Prim.Native.Nat.{ℕ, ◌≤◌, min}
use native.Mathlib.Omega.{arith}
use lib.ListN.{length, take, drop, length-take, take-append-drop}
use lib.Seq.{take_all, take-take, take-append-le, drop-append-le, length-take-le}
use Rattle.ledger.specs.declared.Row.{Row}
use Rattle.ledger.specs.Limits.{block_limit}
use Rattle.text.proofs.Laws.{either}
use Rattle.blocks.specs.Rows.{table_of, targets_of, queries_of, sizes_of}
use Rattle.blocks.proofs.TableLaws.{table_length, table_take, take_map}
use Rattle.rows.specs.Staging.{all_reach, Loaded, first_rows, stored_rows, Columns, Fronts}
use Rattle.rows.proofs.StagingLaws.{fronts_stored, loaded_targets, loaded_queries, loaded_sizes, put_targets, put_queries, put_sizes}
use Rattle.cases_chain.specs.Tables.{table_limit, Even}

-- so many first numbers of a column, and at most as many as it has
take_least : (n : ℕ) (ts xs : List ℕ) → n ≡ min (length ts) table_limit → length xs ≡ length ts → take n xs ≡ take table_limit xs
take_least n ts xs e h =
    either (length xs) table_limit _
    (λ l. take_all n xs (omega arith) ∙ sym (take_all table_limit xs l))
    (λ l. let k : n ≡ table_limit = omega arith in rw k)

module _ (n : ℕ) (ts qs zs : List ℕ) (marked table : List Row) (en : n ≡ min (length ts) table_limit) (long : length marked ≡ table_limit) (stored : table ≡ stored_rows n ts qs zs marked) (even : Even ts qs zs) where
  few : (xs : List ℕ) → length xs ≡ length ts → n ≤ length xs
  few xs h = omega arith

  fronts : Fronts n (length marked) (take n ts) (take n qs) (take n zs) ts qs zs
  fronts = record {
    fits = omega arith;
    reach = omega (arith, even.queries, even.sizes);
    targets = refl;
    queries = refl;
    sizes = refl;
  }

  lt : length (take n ts) ≡ n
  lt = length-take-le n ts (few ts refl)

  lq : length (take n qs) ≡ n
  lq = length-take-le n qs (few qs even.queries)

  lz : length (take n zs) ≡ n
  lz = length-take-le n zs (few zs even.sizes)

  pub filled_table : take n table ≡ first_rows table_limit ts qs zs
  filled_table =
      let k : length (table_of (take n ts) (take n qs) (take n zs)) ≡ n = omega (arith, table_length (take n ts) (take n qs) (take n zs), lt, lq, lz) in
      let c : take n (table_of (take n ts) (take n qs) (take n zs) ++ drop n marked) ≡ table_of (take n ts) (take n qs) (take n zs) =
      take-append-le n (table_of (take n ts) (take n qs) (take n zs)) (drop n marked) (omega arith) ∙ take_all n (table_of (take n ts) (take n qs) (take n zs)) (omega arith) in
      ap (take n) (stored ∙ fronts_stored n _ _ _ ts qs zs marked fronts) ∙ c
      ∙ rw (take_least n ts ts en refl, take_least n ts qs en even.queries, take_least n ts zs en even.sizes) (sym (table_take table_limit ts qs zs))

  column : (g : Row → ℕ) → map g (take n table) ≡ take n (map g (stored_rows n ts qs zs marked))
  column g = sym (take_map g n table) ∙ ap (λ (t : List Row). take n (map g t)) stored

  pub filled_targets : targets_of (take n table) ≡ take table_limit ts
  filled_targets =
      column (λ (b : Row). b.target) ∙ ap (λ (t : List Row). take n (targets_of t)) (fronts_stored n _ _ _ ts qs zs marked fronts)
      ∙ put_targets n (take n ts) (take n qs) (take n zs) marked lt lq lz ∙ take_least n ts ts en refl

  pub filled_queries : queries_of (take n table) ≡ take table_limit qs
  filled_queries =
      column (λ (b : Row). b.query) ∙ ap (λ (t : List Row). take n (queries_of t)) (fronts_stored n _ _ _ ts qs zs marked fronts)
      ∙ put_queries n (take n ts) (take n qs) (take n zs) marked lt lq lz ∙ take_least n ts qs en even.queries

  pub filled_sizes : sizes_of (take n table) ≡ take table_limit zs
  filled_sizes =
      column (λ (b : Row). b.size) ∙ ap (λ (t : List Row). take n (sizes_of t)) (fronts_stored n _ _ _ ts qs zs marked fronts)
      ∙ put_sizes n (take n ts) (take n qs) (take n zs) marked lt lq lz ∙ take_least n ts zs en even.sizes

-- rows at the front of a table, copied out to columns of room for a record's blocks
module _ (room n m : ℕ) (marked after : List Row) (ts ts' qs qs' zs zs' xs ys ws : List ℕ) (en : n ≡ min room block_limit) (long : length marked ≡ block_limit) (fits : m ≤ n)
    (put : after ≡ table_of xs ys ws ++ drop m (take n marked)) (hx : length xs ≡ m) (hy : length ys ≡ m) (hw : length ws ≡ m)
    (all : length (after ++ drop n marked) ≡ block_limit) (loaded : Loaded (all_reach (length (after ++ drop n marked)) ts qs zs) (after ++ drop n marked) ts ts' qs qs' zs zs')
    (et : length ts' ≡ length ts) (eq : length qs' ≡ length qs) (ez : length zs' ≡ length zs) (cols : Columns ts qs zs) where
  lent : m ≤ length (take n marked)
  lent = rw length-take (omega arith)

  rows_are : after ++ drop n marked ≡ table_of xs ys ws ++ drop m marked
  rows_are =
      let b : drop m (take n marked) ++ drop n marked ≡ drop m marked = sym (drop-append-le m (take n marked) (drop n marked) lent) ∙ ap (drop m) (take-append-drop n marked) in
      ap (λ (l : List Row). l ++ drop n marked) put ∙ append_assoc (table_of xs ys ws) (drop m (take n marked)) (drop n marked) ∙ ap (λ (l : List Row). table_of xs ys ws ++ l) b

  abbrev part : ℕ
  part = min (length (after ++ drop n marked)) block_limit

  within : m ≤ part
  within = omega arith

  out : (g : Row → ℕ) (l : List ℕ) → take part l ≡ map g (take part (after ++ drop n marked)) → take m l ≡ take m (map g (table_of xs ys ws ++ drop m marked))
  out g l e =
      sym (take-take m part l within) ∙ ap (take m) e ∙ ap (take m) (sym (take_map g part (after ++ drop n marked)))
      ∙ take-take m part (map g (after ++ drop n marked)) within ∙ ap (λ (t : List Row). take m (map g t)) rows_are

  pub copied_lem : Fronts m (min room block_limit) xs ys ws ts' qs' zs'
  copied_lem = record {
    fits = omega arith;
    reach = omega (arith, cols.targets, cols.queries, cols.sizes);
    targets = out (λ (b : Row). b.target) ts' (loaded_targets (after ++ drop n marked) ts ts' qs qs' zs zs' cols loaded) ∙ put_targets m xs ys ws marked hx hy hw;
    queries = out (λ (b : Row). b.query) qs' (loaded_queries (after ++ drop n marked) ts ts' qs qs' zs zs' cols loaded) ∙ put_queries m xs ys ws marked hx hy hw;
    sizes = out (λ (b : Row). b.size) zs' (loaded_sizes (after ++ drop n marked) ts ts' qs qs' zs zs' cols loaded) ∙ put_sizes m xs ys ws marked hx hy hw;
  }
