-- Chains over a lent table of rows, each of target start, query start and size. The definitions of `chain` are cited on the table's flat lists and length.
use Rattle.std.specs.Prelude.{ℕ, ◌≡◌, List, ◌++◌, length, drop, Ok, Err, Result}
use Rattle.ledger.specs.declared.Row.{Row}
use Rattle.rows.specs.Staging.{Fronts}
use Rattle.chain.specs.declared.Chain.{Chain}
use Rattle.chain.specs.Records.{chain_targets, chain_queries, chain_sizes, chain_rows}
use Rattle.chain.specs.Read.{chain_read}
use Rattle.ledger.specs.declared.Refusal.{Refusal}

-- what a lent table holds after an answer: the rows of an accepted chain at its front, the others as they were; or all as they were
abbrev pub table_after : Result Chain Refusal → List ℕ → List Row → List Row
table_after (Ok r) s before = chain_rows s r ++ drop r.blockCount before
table_after (Err x) s before = before

-- THE READER'S PROMISE: the answer, the room being the table's rows; and the table
pub record RowsRead (s : List ℕ) (before after : List Row) (x : Result Chain Refusal) : Type 0 where
  pub is : x ≡ chain_read s (length before)
  pub rows : after ≡ table_after x s before

-- the number of rows that an answer fills
abbrev pub rows_filled : Result Chain Refusal → ℕ
rows_filled (Ok r) = r.blockCount
rows_filled (Err x) = 0

-- what reading into three columns promises: the answer for a table of so many rows, and the blocks of an accepted chain at the columns' fronts
pub record ColumnsRead (s : List ℕ) (rows : ℕ) (ts qs zs : List ℕ) (x : Result Chain Refusal) : Type 0 where
  pub is : x ≡ chain_read s rows
  pub held : (r : Chain) → x ≡ Ok r → Fronts r.blockCount rows (chain_targets s r) (chain_queries s r) (chain_sizes s r) ts qs zs
