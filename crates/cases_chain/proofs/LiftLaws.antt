-- What each entry shows at its end, on plain values. Assumes nothing.
use mathlib.Core.Path.{◌≡◌, sym, ap, ◌∙◌}
use mathlib.Core.List.{List, ◌++◌}
use lib.ListN.{length-map}
use Prim.Native.Nat.{ℕ, min}
use native.Mathlib.Omega.{arith}
use lib.ListN.{length, take, drop, length-take}
use Rattle.ledger.specs.declared.Row.{Row}
use Rattle.ledger.specs.Limits.{block_limit}
use Rattle.blocks.specs.Rows.{table_of, targets_of, queries_of, sizes_of}
use Rattle.blocks.proofs.TableLaws.{table_back}
use Rattle.rows.specs.Staging.{all_reach, Loaded, stored_rows, Columns, Fronts}
use Rattle.chain.specs.declared.Chain.{Chain}
use Rattle.lift.specs.Positions.{lift_position}
use Rattle.region.specs.declared.Tally.{Tally}
use Rattle.region.specs.declared.Tallied.{Tallied}
use Rattle.region.specs.Regions.{lift_region}
use Rattle.turn.specs.Turns.{turned_rows, turned, turn}
use Rattle.turn.proofs.TurnLaws.{counted_lem, turnable}
use Rattle.table_lift.specs.Lifts.{RegionTallied, BatchLifted}
use Rattle.table_turn.specs.Turns.{table_after, RowsTurned, ColumnsTurned}
use Rattle.cases_chain.specs.Tables.{table_limit}
use Rattle.cases_chain.proofs.FillLaws.{filled_table, copied_lem}
use Rattle.cases_chain.specs.declared.BatchAnswer.{BatchAnswer}
use Rattle.cases_chain.specs.Lifts.{PositionLifted, RegionLifted, RegionCounted, BatchCounted, TableTurned}
use Rattle.std.specs.Prelude.{Ok, Result, ⊤, ℤ}
use Rattle.ledger.specs.declared.Refusal.{Refusal}
use Rattle.region.specs.declared.Region.{Region}

-- a table filled from columns
module _ (n : ℕ) (ts qs zs : List ℕ) (marked table : List Row) (en : n ≡ min (length ts) table_limit) (long : length marked ≡ table_limit) (stored : table ≡ stored_rows n ts qs zs marked) (c : Chain) where
  pub position_lifted_lem : (p : ℕ) (x : Result (ℕ × ℤ) Refusal) → x ≡ lift_position c (take n table) p → PositionLifted c ts qs zs p x
  position_lifted_lem p x e = record { is = λ even. rw (filled_table n ts qs zs marked table en long stored even) at e }

  pub region_lifted_lem : (start end : ℕ) (x : Result Region Refusal) → x ≡ lift_region c (take n table) start end → RegionLifted c ts qs zs start end x
  region_lifted_lem start end x e = record { is = λ even. rw (filled_table n ts qs zs marked table en long stored even) at e }

  pub region_counted : (before after : Tally) (start end : ℕ) (answer : Result Region Refusal) (x : Tallied) → RegionTallied before c (take n table) start end after answer → (x.tally ≡ after) × (x.answer ≡ answer)
      → RegionCounted before c ts qs zs start end x
  region_counted before after start end answer x h e = record { is = λ even. rw (filled_table n ts qs zs marked table en long stored even, sym e.0, sym e.1) at h }

  pub batch_counted : (before after : Tally) (regions lent left : List (List ℕ)) (check : Result ⊤ Refusal) (x : BatchAnswer) → BatchLifted before c (take n table) regions lent after left check → (x.tally ≡ after) × (x.check ≡ check)
      → BatchCounted before c ts qs zs regions lent left x
  batch_counted before after regions lent left check x h e = record { is = λ even. rw (filled_table n ts qs zs marked table en long stored even, sym e.0, sym e.1) at h }

turned_count : (c d : Chain) → d ≡ turned c → d.blockCount ≡ c.blockCount
unfolding turned
turned_count c d e = ap (λ (y : Chain). y.blockCount) e

-- rows copied out to columns
module _ (c : Chain) (rows : List Row) (room n : ℕ) (marked after : List Row) (ts ts' qs qs' zs zs' : List ℕ) (x : Result Chain Refusal) (en : n ≡ min room block_limit) (long : length marked ≡ block_limit)
    (h : RowsTurned c rows (take n marked) after x) where
  lent : length (take n marked) ≡ min room block_limit
  lent = rw length-take (omega arith)

  answer : x ≡ turn c rows (min room block_limit)
  answer = rw lent at h.is

  module _ (all : length (after ++ drop n marked) ≡ block_limit) (loaded : Loaded (all_reach (length (after ++ drop n marked)) ts qs zs) (after ++ drop n marked) ts ts' qs qs' zs zs')
      (et : length ts' ≡ length ts) (eq : length qs' ≡ length qs) (ez : length zs' ≡ length zs) (room_for : Columns ts qs zs) where
    abbrev new : List Row
    new = turned_rows c rows

    held : (d : Chain) → x ≡ Ok d → Fronts d.blockCount (min room block_limit) (targets_of new) (queries_of new) (sizes_of new) ts' qs' zs'
    held d k =
        let o = turnable c rows (min room block_limit) d (sym k ∙ answer) in
        let same : d.blockCount ≡ c.blockCount = turned_count c d o.is in
        let many : length new ≡ d.blockCount = counted_lem c rows o.ok ∙ sym same in
        let put : after ≡ table_of (targets_of new) (queries_of new) (sizes_of new) ++ drop d.blockCount (take n marked) = rw (table_back new) (h.table ∙ ap (λ (y : Result Chain Refusal). table_after y new (take n marked)) k) in
        copied_lem room n d.blockCount marked after ts ts' qs qs' zs zs' (targets_of new) (queries_of new) (sizes_of new) en long (omega (arith, o.fits)) put
        (length-map new (λ (b : Row). b.target) ∙ many) (length-map new (λ (b : Row). b.query) ∙ many) (length-map new (λ (b : Row). b.size) ∙ many)
        all loaded et eq ez room_for

    pub columns_turned : ColumnsTurned c rows (min room block_limit) ts' qs' zs' x
    columns_turned = record { is = answer; held = held }

-- both: a table filled from columns, and another copied out to columns
pub table_turned : (c : Chain) (m : ℕ) (ts qs zs : List ℕ) (marked table : List Row) → m ≡ min (length ts) table_limit → length marked ≡ table_limit → table ≡ stored_rows m ts qs zs marked
    → (room n : ℕ) (lent after : List Row) (nt nt' nq nq' nz nz' : List ℕ) (x : Result Chain Refusal) → n ≡ min room block_limit → length lent ≡ block_limit → RowsTurned c (take m table) (take n lent) after x
    → length (after ++ drop n lent) ≡ block_limit → Loaded (all_reach (length (after ++ drop n lent)) nt nq nz) (after ++ drop n lent) nt nt' nq nq' nz nz'
    → length nt' ≡ length nt → length nq' ≡ length nq → length nz' ≡ length nz → TableTurned c ts qs zs room nt nt' nq nq' nz nz' x
table_turned c m ts qs zs marked table em long stored room n lent after nt nt' nq nq' nz nz' x en l h all loaded et eq ez = record {
  is = λ even. rw (filled_table m ts qs zs marked table em long stored even) at (answer c (take m table) room n lent after nt nt' nq nq' nz nz' x en l h);
  columns = λ even room_for.
      rw (filled_table m ts qs zs marked table em long stored even) at
      (columns_turned c (take m table) room n lent after nt nt' nq nq' nz nz' x en l h all loaded et eq ez room_for);
}
