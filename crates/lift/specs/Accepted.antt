-- Accepted chains (01, "Pairs, lifting, turning"): a record with a table of rows that obeys the chain rules, names by length alone. Later calls test by this again.
use Rattle.std.specs.Prelude.{ℕ, ◌+◌, ◌≤◌, ◌<◌, ◌≡◌, Bool, true, List, length, take, get_or}
use Rattle.ledger.specs.declared.Row.{Row}
use Rattle.ledger.specs.Limits.{largest_position}
use Rattle.blocks.specs.Rows.{targets_of, queries_of, sizes_of, table_of}
use Rattle.chain.specs.declared.Chain.{Chain}
use Rattle.chain.specs.Tests.{chain_valid}

-- the rows that the record counts: a table's first ones
abbrev pub used : Chain → List Row → List Row
used c rows = take c.blockCount rows

unfoldable pub accepted : Chain → List Row → Bool
accepted c rows = chain_valid c (targets_of rows) (queries_of rows) (sizes_of rows)

-- three flat slices have n rows
pub record Wide (n : ℕ) (ts qs zs : List ℕ) : Type 0 where
  pub targets : n ≤ length ts
  pub queries : n ≤ length qs
  pub sizes : n ≤ length zs

-- what the flat slices of an accepted chain give the code that goes over them: the rows are there, and each block ends within the spans
pub record Ready (c : Chain) (ts qs zs : List ℕ) : Type 0 where
  pub ok : accepted c (table_of ts qs zs) ≡ true
  pub some : 1 ≤ c.blockCount
  pub wide : Wide c.blockCount ts qs zs
  pub t_inside : c.tEnd ≤ c.tSize
  pub t_most : c.tSize ≤ largest_position
  pub q_inside : c.qEnd ≤ c.qSize
  pub q_most : c.qSize ≤ largest_position
  pub t_block : (i : ℕ) → i < c.blockCount → get_or ts i 0 + get_or zs i 0 ≤ c.tEnd
  pub q_block : (i : ℕ) → i < c.blockCount → get_or qs i 0 + get_or zs i 0 ≤ c.qEnd
