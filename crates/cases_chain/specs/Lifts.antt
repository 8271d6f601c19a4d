-- What lifts, turns and tallies over a lent table promise where the table is filled from three columns of one length: they see as many rows as a table has.
use Rattle.std.specs.Prelude.{ℕ, min, ◌≡◌, List, Result, ℤ}
use Rattle.ledger.specs.declared.Row.{Row}
use Rattle.ledger.specs.Limits.{block_limit}
use Rattle.rows.specs.Staging.{first_rows, Columns}
use Rattle.chain.specs.declared.Chain.{Chain}
use Rattle.lift.specs.Positions.{lift_position}
use Rattle.region.specs.declared.Tally.{Tally}
use Rattle.region.specs.declared.Tallied.{Tallied}
use Rattle.region.specs.Regions.{lift_region}
use Rattle.turn.specs.Turns.{turn}
use Rattle.table_lift.specs.Lifts.{RegionTallied, BatchLifted}
use Rattle.table_turn.specs.Turns.{ColumnsTurned}
use Rattle.cases_chain.specs.declared.BatchAnswer.{BatchAnswer}
use Rattle.cases_chain.specs.Tables.{table_limit, Even}
use Rattle.ledger.specs.declared.Refusal.{Refusal}
use Rattle.region.specs.declared.Region.{Region}

abbrev pub lent_rows : List ℕ → List ℕ → List ℕ → List Row
lent_rows ts qs zs = first_rows table_limit ts qs zs

pub record PositionLifted (c : Chain) (ts qs zs : List ℕ) (p : ℕ) (x : Result (ℕ × ℤ) Refusal) : Type 0 where
  pub is : Even ts qs zs → x ≡ lift_position c (lent_rows ts qs zs) p

pub record RegionLifted (c : Chain) (ts qs zs : List ℕ) (start end : ℕ) (x : Result Region Refusal) : Type 0 where
  pub is : Even ts qs zs → x ≡ lift_region c (lent_rows ts qs zs) start end

pub record RegionCounted (before : Tally) (c : Chain) (ts qs zs : List ℕ) (start end : ℕ) (x : Tallied) : Type 0 where
  pub is : Even ts qs zs → RegionTallied before c (lent_rows ts qs zs) start end x.tally x.answer

pub record BatchCounted (before : Tally) (c : Chain) (ts qs zs : List ℕ) (regions lent left : List (List ℕ)) (x : BatchAnswer) : Type 0 where
  pub is : Even ts qs zs → BatchLifted before c (lent_rows ts qs zs) regions lent x.tally left x.check

-- a turn into a table of so many rows: the answer; and columns of room for a record's blocks hold the turned rows at their fronts
pub record TableTurned (c : Chain) (ts qs zs : List ℕ) (room : ℕ) (nt nt' nq nq' nz nz' : List ℕ) (x : Result Chain Refusal) : Type 0 where
  pub is : Even ts qs zs → x ≡ turn c (lent_rows ts qs zs) (min room block_limit)
  pub columns : Even ts qs zs → Columns nt nq nz → ColumnsTurned c (lent_rows ts qs zs) (min room block_limit) nt' nq' nz' x
