-- Turning a chain over lent tables of rows. The definitions of `turn` are cited on the table as it stands and on the room of the other.
use Rattle.std.specs.Prelude.{ℕ, ◌≡◌, List, ◌++◌, length, drop, Ok, Err, Result}
use Rattle.ledger.specs.declared.Row.{Row}
use Rattle.blocks.specs.Rows.{targets_of, queries_of, sizes_of}
use Rattle.rows.specs.Staging.{Fronts}
use Rattle.chain.specs.declared.Chain.{Chain}
use Rattle.turn.specs.Turns.{turned_rows, turn}
use Rattle.ledger.specs.declared.Refusal.{Refusal}

-- what a lent table holds after a turn: the turned rows at its front, the others as they were; or all as they were
abbrev pub table_after : Result Chain Refusal → List Row → List Row → List Row
table_after (Ok d) new before = new ++ drop d.blockCount before
table_after (Err x) new before = before

-- THE TURN'S PROMISE: the answer, the room being the other table's rows; and that table
pub record RowsTurned (c : Chain) (rows before after : List Row) (x : Result Chain Refusal) : Type 0 where
  pub is : x ≡ turn c rows (length before)
  pub table : after ≡ table_after x (turned_rows c rows) before

-- the number of rows that an answer fills
abbrev pub rows_filled : Result Chain Refusal → ℕ
rows_filled (Ok d) = d.blockCount
rows_filled (Err x) = 0

-- what turning into three columns promises: the answer for a table of so much room, and the turned rows at the columns' fronts
pub record ColumnsTurned (c : Chain) (rows : List Row) (room : ℕ) (ts qs zs : List ℕ) (x : Result Chain Refusal) : Type 0 where
  pub is : x ≡ turn c rows room
  pub held : (d : Chain) → x ≡ Ok d
      → Fronts d.blockCount room (targets_of (turned_rows c rows)) (queries_of (turned_rows c rows)) (sizes_of (turned_rows c rows)) ts qs zs
