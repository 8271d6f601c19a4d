-- Turning over tables of rows: the staged rows give the same answer and the same rows as the tables. Assumes nothing.
use mathlib.Core.Path.{◌≡◌, refl, sym, ap, subst, ◌∙◌}
use mathlib.Core.Bool.{Bool, true, false}
use mathlib.Core.List.{List, ◌++◌}
use Prim.Native.Nat.{ℕ, ◌≤◌, min}
use native.Mathlib.Omega.{arith}
use lib.ListN.{length, take, drop, length-map}
use lib.Dec.{leb}
use borrow.Rule.Slice.PartMut.{put_mid}
use Rattle.ledger.specs.Refusals.{require}
use Rattle.ledger.specs.Limits.{block_limit}
use Rattle.ledger.specs.declared.Row.{Row}
use Rattle.ledger.specs.declared.Reason.TheVariants.{BlockRules, NoRoom}
use Rattle.blocks.specs.Blocks.{rows_of}
use Rattle.blocks.specs.Rows.{table_of, targets_of, queries_of, sizes_of}
use Rattle.blocks.proofs.TableLaws.{table_back}
use Rattle.rows.specs.Staging.{staged_rows, all_reach, Loaded, Columns, stored_rows}
use Rattle.rows.proofs.StagingLaws.{fronts_made, fronts_stored, none_stored, room_cut, cut_rows, staged_parts, staged_loaded, part_count}
use Rattle.chain.specs.declared.Chain.{Chain}
use Rattle.lift.specs.Accepted.{accepted}
use Rattle.lift.proofs.AcceptLaws.{accepted_rules}
use Rattle.lift.proofs.CutLaws.{used_cut, seen_cut}
use Rattle.turn.specs.Turns.{turned_rows_on, turned_rows, turned, not_turned, turn, column_after, TurnedInto}
use Rattle.turn.proofs.TurnLaws.{counted_lem, turnable}
use Rattle.table_turn.specs.Turns.{table_after, RowsTurned, rows_filled, ColumnsTurned}
use Rattle.std.specs.Prelude.{Ok, Err, Result}
use Rattle.ledger.specs.declared.Refusal.{Refusal}

-- on the rows that are staged, the answer and the turned rows are those of the table
turn_cut : (c : Chain) (rows : List Row) (room : ℕ) → turn c (cut_rows rows) room ≡ turn c rows room
unfolding turn
turn_cut c rows room = seen_cut (λ (t : Bool) (bs : List Row). require t (not_turned BlockRules) (require (leb c.blockCount room) (not_turned NoRoom) (Ok (turned c)))) (λ a b. refl) c rows

turned_cut : (c : Chain) (rows : List Row) → accepted c rows ≡ true → turned_rows c (cut_rows rows) ≡ turned_rows c rows
unfolding turned_rows
turned_cut c rows ok = ap (turned_rows_on c.qStrand c.tSize c.qSize) (used_cut c rows ok)

-- the rows that are staged are room enough exactly where the table is
enough_cut : (c : Chain) (rows : List Row) (room : ℕ) → turn c rows (min room block_limit) ≡ turn c rows room
unfolding turn
enough_cut c rows room = go (accepted c rows) refl
  where
    go : (t : Bool) → accepted c rows ≡ t
        → require t (not_turned BlockRules) (require (leb c.blockCount (min room block_limit)) (not_turned NoRoom) (Ok (turned c))) ≡ require t (not_turned BlockRules) (require (leb c.blockCount room) (not_turned NoRoom) (Ok (turned c)))
    go true e = rw (room_cut c.blockCount room (accepted_rules c rows e).few_blocks)
    go false e = refl

turned_count : (c d : Chain) → d ≡ turned c → d.blockCount ≡ c.blockCount
unfolding turned
turned_count c d e = ap (λ (y : Chain). y.blockCount) e

-- turning into three columns
module _ (c : Chain) (rows : List Row) (ts qs zs t q z : List ℕ) (room n : ℕ) (x : Result Chain Refusal) (cols : Columns ts qs zs) (e : n ≡ min room block_limit)
    (h : TurnedInto c rows (take n ts) (take n qs) (take n zs) t q z x) where
  abbrev new : List Row
  new = turned_rows c rows

  answered : x ≡ turn c rows (min room block_limit)
  answered =
      let u = part_count n room ts e cols.targets in
      let v = part_count n room qs e cols.queries in
      let w = part_count n room zs e cols.sizes in
      let m : rows_of (take n ts) (take n qs) (take n zs) ≡ min room block_limit = omega (arith, u, v, w) in
      h.is ∙ ap (turn c rows) m

  into_columns : ColumnsTurned c rows room (put_mid 0 n ts t) (put_mid 0 n qs q) (put_mid 0 n zs z) x
  into_columns = record {
    is = answered ∙ enough_cut c rows room;
    held = λ d k.
        let o = turnable c rows (min room block_limit) d (sym k ∙ answered) in
        let same : d.blockCount ≡ c.blockCount = turned_count c d o.is in
        let few : d.blockCount ≤ n = omega (arith, o.fits) in
        let many : length new ≡ d.blockCount = counted_lem c rows o.ok ∙ sym same in
        fronts_made d.blockCount room n (targets_of new) (queries_of new) (sizes_of new) ts qs zs t q z cols e few
        (length-map new (λ (b : Row). b.target) ∙ many) (length-map new (λ (b : Row). b.query) ∙ many) (length-map new (λ (b : Row). b.size) ∙ many)
        (h.targets ∙ ap (λ (y : Result Chain Refusal). column_after y (targets_of new) (take n ts)) k)
        (h.queries ∙ ap (λ (y : Result Chain Refusal). column_after y (queries_of new) (take n qs)) k)
        (h.sizes ∙ ap (λ (y : Result Chain Refusal). column_after y (sizes_of new) (take n zs)) k);
  }

pub columns_turned : (c : Chain) (rows room m n : ℕ) (xs ys ws ts qs zs t q z : List ℕ) (x : Result Chain Refusal) → Columns xs ys ws × Columns ts qs zs → m ≡ min rows block_limit → n ≡ min room block_limit
    → TurnedInto c (table_of (take m xs) (take m ys) (take m ws)) (take n ts) (take n qs) (take n zs) t q z x
    → ColumnsTurned c (staged_rows rows xs ys ws) room (put_mid 0 n ts t) (put_mid 0 n qs q) (put_mid 0 n zs z) x
columns_turned c rows room m n xs ys ws ts qs zs t q z x cols d e h =
    subst (λ (l : List Row). ColumnsTurned c l room (put_mid 0 n ts t) (put_mid 0 n qs q) (put_mid 0 n zs z) x) (staged_parts rows m xs ys ws d)
    (into_columns c (table_of (take m xs) (take m ys) (take m ws)) ts qs zs t q z room n x cols.1 e h)

pub filled_turned : (a : Result Chain Refusal) (d : Chain) → a ≡ Ok d → d.blockCount ≡ rows_filled a
filled_turned a d e = rw e

-- the table after the rows of an answer were stored
module _ (rows : List Row) (ts ts' qs qs' zs zs' : List ℕ) (room : Columns ts qs zs) (h : Loaded (all_reach (length rows) ts qs zs) rows ts ts' qs qs' zs zs')
    (c : Chain) (us vs ws : List ℕ) (before after : List Row) (n : ℕ) (x : Result Chain Refusal) where
  abbrev bs : List Row
  bs = staged_rows (length rows) ts' qs' zs'

  here : bs ≡ cut_rows rows
  here = staged_loaded rows ts ts' qs qs' zs zs' room h

  pub rows_turned : ColumnsTurned c bs (length before) us vs ws x → n ≡ rows_filled x → after ≡ stored_rows n us vs ws before → RowsTurned c rows before after x
  rows_turned w e k = record { is = is; table = k ∙ ap (λ (m : ℕ). stored_rows m us vs ws before) e ∙ go x refl }
    where
      is : x ≡ turn c rows (length before)
      is = w.is ∙ ap (λ (l : List Row). turn c l (length before)) here ∙ turn_cut c rows (length before)

      same : (d : Chain) → x ≡ Ok d → turned_rows c bs ≡ turned_rows c rows
      same d l = ap (turned_rows c) here ∙ turned_cut c rows (turnable c rows (length before) d (sym l ∙ is)).ok

      go : (y : Result Chain Refusal) → x ≡ y → stored_rows (rows_filled y) us vs ws before ≡ table_after y (turned_rows c rows) before
      go (Ok d) l = fronts_stored d.blockCount _ _ _ us vs ws before (w.held d l) ∙ ap (λ (r : List Row). r ++ drop d.blockCount before) (table_back (turned_rows c bs) ∙ same d l)
      go (Err y) l = none_stored us vs ws before
