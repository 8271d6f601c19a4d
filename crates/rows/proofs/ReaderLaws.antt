-- A reader over a table of rows, for any format: its text checker's answer, then the room; the blocks of what it accepts go to the table's front. On the rows that are
-- staged it answers and leaves what it does on the table. Assumes nothing.
use mathlib.Core.Path.{◌≡◌, sym, ap, ◌∙◌}
use mathlib.Core.List.{List, ◌++◌}
use Prim.Native.Nat.{ℕ, ◌≤◌, ◌<◌, min}
use native.Mathlib.Omega.{arith}
use lib.ListN.{length, take, drop}
use lib.Seq.{sets}
use borrow.Rule.Slice.PartMut.{put_mid}
use Rattle.ledger.specs.Limits.{block_limit}
use Rattle.ledger.specs.declared.Row.{Row}
use Rattle.ledger.specs.declared.Refusal.{Refusal}
use Rattle.text.proofs.Laws.{either}
use Rattle.blocks.specs.Blocks.{rows_of}
use Rattle.blocks.specs.Rows.{table_of}
use Rattle.rows.specs.Staging.{Columns, Fronts, stored_rows}
use Rattle.rows.proofs.StagingLaws.{fronts_made, fronts_stored, none_stored, part_count}

-- what a format's answers and its reader are: `acc` and `ref` make the answers, `check` is the text checker's, `read room` the reader's, and ts, qs, zs are the columns of
-- rows of what is accepted
pub record Reads {R A : Type 0} (acc : R → A) (ref : Refusal → A) (blocks : R → ℕ) (filled : A → ℕ) (check : A) (read : ℕ → A) (no_room : Refusal) (ts qs zs : R → List ℕ) : Type 1 where
  -- an answer is one of the two
  pub cases : (a : A) (P : Type 0) → ((r : R) → a ≡ acc r → P) → ((x : Refusal) → a ≡ ref x → P) → P
  pub apart : (r : R) (x : Refusal) → acc r ≡ ref x → ⊥
  -- the rows that an answer fills
  pub filled_by : (r : R) → filled (acc r) ≡ blocks r
  pub filled_none : (x : Refusal) → filled (ref x) ≡ 0
  -- the reader: the text checker, then the room
  pub roomy : (r : R) (room : ℕ) → check ≡ acc r → blocks r ≤ room → read room ≡ acc r
  pub short : (r : R) (room : ℕ) → check ≡ acc r → room < blocks r → read room ≡ ref no_room
  pub refused : (x : Refusal) (room : ℕ) → check ≡ ref x → read room ≡ ref x
  -- the blocks of what is accepted are no more than the limit, and its columns have as many numbers
  pub few : (r : R) → check ≡ acc r → blocks r ≤ block_limit
  pub targets : (r : R) → check ≡ acc r → length (ts r) ≡ blocks r
  pub queries : (r : R) → check ≡ acc r → length (qs r) ≡ blocks r
  pub sizes : (r : R) → check ≡ acc r → length (zs r) ≡ blocks r

module _ {R A : Type 0} {acc : R → A} {ref : Refusal → A} {blocks : R → ℕ} {filled : A → ℕ} {check : A} {read : ℕ → A} {no_room : Refusal} {xs ys ws : R → List ℕ}
    (f : Reads acc ref blocks filled check read no_room xs ys ws) where
  -- what a reader accepts, its text checker accepts, and there is room
  pub read_of : (room : ℕ) (r : R) → read room ≡ acc r → (check ≡ acc r) × (blocks r ≤ room)
  read_of room r e =
      f.cases check _
      (λ q k. either (blocks q) room _
      (λ h.
      let a : acc q ≡ acc r = sym (f.roomy q room k h) ∙ e in
      let b : blocks q ≡ blocks r = sym (f.filled_by q) ∙ ap filled a ∙ f.filled_by r in
      (k ∙ a, omega arith))
      (λ h. absurd (f.apart r no_room (sym e ∙ f.short q room k h))))
      (λ x k. absurd (f.apart r x (sym e ∙ f.refused x room k)))

  -- the rows that are staged are room enough exactly where the table is
  read_cut : (rows : ℕ) → read (min rows block_limit) ≡ read rows
  read_cut rows =
      f.cases check _
      (λ q k. either (blocks q) rows _
      (λ h. f.roomy q (min rows block_limit) k (omega (arith, f.few q k)) ∙ sym (f.roomy q rows k h))
      (λ h. f.short q (min rows block_limit) k (omega (arith, f.few q k)) ∙ sym (f.short q rows k h)))
      (λ x k. f.refused x (min rows block_limit) k ∙ sym (f.refused x rows k))

  -- reading into three columns, for a table of so many rows
  module _ (ts qs zs t q z : List ℕ) (rows n : ℕ) (x : A) (room : Columns ts qs zs) (e : n ≡ min rows block_limit) (is : x ≡ read (rows_of (take n ts) (take n qs) (take n zs))) where
    on_part : x ≡ read (min rows block_limit)
    on_part =
        let a = part_count n rows ts e room.targets in
        let b = part_count n rows qs e room.queries in
        let c = part_count n rows zs e room.sizes in
        let m : rows_of (take n ts) (take n qs) (take n zs) ≡ min rows block_limit = omega (arith, a, b, c) in
        is ∙ ap read m

    pub columns_is : x ≡ read rows
    columns_is = on_part ∙ read_cut rows

    pub columns_held : (r : R) → x ≡ acc r → t ≡ sets (take n ts) 0 (xs r) → q ≡ sets (take n qs) 0 (ys r) → z ≡ sets (take n zs) 0 (ws r)
        → Fronts (blocks r) rows (xs r) (ys r) (ws r) (put_mid 0 n ts t) (put_mid 0 n qs q) (put_mid 0 n zs z)
    columns_held r k et eq ez =
        let o = read_of (min rows block_limit) r (sym on_part ∙ k) in
        fronts_made (blocks r) rows n (xs r) (ys r) (ws r) ts qs zs t q z room e (omega (arith, o.1)) (f.targets r o.0) (f.queries r o.0) (f.sizes r o.0) et eq ez

  -- the table after the rows of an answer were stored
  module _ (ts qs zs : List ℕ) (before after : List Row) (n : ℕ) (x : A) (held : (r : R) → x ≡ acc r → Fronts (blocks r) (length before) (xs r) (ys r) (ws r) ts qs zs) (e : n ≡ filled x)
      (stored : after ≡ stored_rows n ts qs zs before) where
    pub rows_accepted : (r : R) → x ≡ acc r → after ≡ table_of (xs r) (ys r) (ws r) ++ drop (blocks r) before
    rows_accepted r k =
        let m : n ≡ blocks r = e ∙ ap filled k ∙ f.filled_by r in
        stored ∙ ap (λ (c : ℕ). stored_rows c ts qs zs before) m ∙ fronts_stored (blocks r) (xs r) (ys r) (ws r) ts qs zs before (held r k)

    pub rows_refused : (y : Refusal) → x ≡ ref y → after ≡ before
    rows_refused y k =
        let m : n ≡ 0 = e ∙ ap filled k ∙ f.filled_none y in
        stored ∙ ap (λ (c : ℕ). stored_rows c ts qs zs before) m ∙ none_stored ts qs zs before
