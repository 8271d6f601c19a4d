-- Rows of a table in three columns of numbers, and back.
use Rattle.std.specs.Prelude.{ℕ, ◌≤◌, min, ◌≡◌, List, ◌++◌, length, take, drop}
use Rattle.ledger.specs.declared.Row.{Row}
use Rattle.ledger.specs.Limits.{block_limit}
use Rattle.blocks.specs.Blocks.{rows_of}
use Rattle.blocks.specs.Rows.{table_of, targets_of, queries_of, sizes_of}

-- as many rows as a table of n rows and three columns all have
abbrev pub all_reach : ℕ → List ℕ → List ℕ → List ℕ → ℕ
all_reach n ts qs zs = min n (rows_of ts qs zs)

-- three columns once the first n rows of a table stand at their fronts
pub record Loaded (n : ℕ) (rows : List Row) (ts ts' qs qs' zs zs' : List ℕ) : Type 0 where
  pub targets : ts' ≡ targets_of (take n rows) ++ drop n ts
  pub queries : qs' ≡ queries_of (take n rows) ++ drop n qs
  pub sizes : zs' ≡ sizes_of (take n rows) ++ drop n zs

-- the first n rows of three columns
abbrev pub first_rows : ℕ → List ℕ → List ℕ → List ℕ → List Row
first_rows n ts qs zs = take n (table_of ts qs zs)

-- the rows that stand in three columns, for a table of so many rows
abbrev pub staged_rows : ℕ → List ℕ → List ℕ → List ℕ → List Row
staged_rows rows ts qs zs = first_rows (min rows block_limit) ts qs zs

-- a table once its first n rows are those of three columns; the rows past them are as they were
abbrev pub front_stored : ℕ → List ℕ → List ℕ → List ℕ → List Row → List Row
front_stored n ts qs zs rows = first_rows n ts qs zs ++ drop n rows

-- the same for as many of the first so many rows as the table and the columns have
abbrev pub stored_rows : ℕ → List ℕ → List ℕ → List ℕ → List Row → List Row
stored_rows count ts qs zs rows = front_stored (min count (all_reach (length rows) ts qs zs)) ts qs zs rows

-- three columns of the room that a record's blocks have
pub record Columns (ts qs zs : List ℕ) : Type 0 where
  pub targets : length ts ≡ block_limit
  pub queries : length qs ≡ block_limit
  pub sizes : length zs ≡ block_limit

-- three columns with the lists xs, ys, ws at their fronts, n numbers each, no more than a table of so many rows has
pub record Fronts (n rows : ℕ) (xs ys ws ts qs zs : List ℕ) : Type 0 where
  pub fits : n ≤ rows
  pub reach : n ≤ rows_of ts qs zs
  pub targets : take n ts ≡ xs
  pub queries : take n qs ≡ ys
  pub sizes : take n zs ≡ ws
