-- BED lines over a lent table of rows, each of target start, query start and size. The definitions of `bed` are cited on the table's flat lists and length.
use Rattle.std.specs.Prelude.{ℕ, ◌≡◌, List, ◌++◌, length, drop, Ok, Err, Result}
use Rattle.ledger.specs.declared.Row.{Row}
use Rattle.ledger.specs.declared.Refusal.{Refusal}
use Rattle.rows.specs.Staging.{Fronts}
use Rattle.bed.specs.declared.Bed.{Bed}
use Rattle.bed.specs.Records.{bed_targets, bed_queries, bed_sizes, bed_rows}
use Rattle.bed.specs.Read.{bed_read}

-- what a lent table holds after an answer: the rows of an accepted line at its front, the others as they were; or all as they were
abbrev pub table_after : Result Bed Refusal → List ℕ → List Row → List Row
table_after (Ok r) s before = bed_rows s r ++ drop r.blockCount before
table_after (Err x) s before = before

-- THE READER'S PROMISE: the answer, the room being the table's rows; and the table
pub record RowsRead (s : List ℕ) (before after : List Row) (x : Result Bed Refusal) : Type 0 where
  pub is : x ≡ bed_read s (length before)
  pub rows : after ≡ table_after x s before

-- the number of rows that an answer fills
abbrev pub rows_filled : Result Bed Refusal → ℕ
rows_filled (Ok r) = r.blockCount
rows_filled (Err x) = 0

-- what reading into three columns promises: the answer for a table of so many rows, and the blocks of an accepted line at the columns' fronts
pub record ColumnsRead (s : List ℕ) (rows : ℕ) (ts qs zs : List ℕ) (x : Result Bed Refusal) : Type 0 where
  pub is : x ≡ bed_read s rows
  pub held : (r : Bed) → x ≡ Ok r → Fronts r.blockCount rows (bed_targets s r) (bed_queries s r) (bed_sizes s r) ts qs zs
