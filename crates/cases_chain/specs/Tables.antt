-- What the entries over a lent table promise where the table is filled from three columns, or its rows are copied out to them.
use Rattle.std.specs.Prelude.{ℕ, min, ◌≡◌, List, length, take, Result, ⊤}
use Rattle.ledger.specs.Limits.{block_limit}
use Rattle.rows.specs.Staging.{Columns}
use Rattle.chain.specs.declared.Chain.{Chain}
use Rattle.chain.specs.Read.{chain_read}
use Rattle.chain.specs.Write.{record_check, ChainWrote}
use Rattle.table_chain.specs.Rows.{ColumnsRead}
use Rattle.ledger.specs.declared.Refusal.{Refusal}

-- a table has so many rows
abbrev pub table_limit : ℕ
table_limit = 600

-- three columns of one length
pub record Even (ts qs zs : List ℕ) : Type 0 where
  pub queries : length qs ≡ length ts
  pub sizes : length zs ≡ length ts

-- a text read into a table of so many rows: the answer; and columns of room for a record's blocks hold its blocks at their fronts
pub record TableRead (s : List ℕ) (room : ℕ) (ts ts' qs qs' zs zs' : List ℕ) (x : Result Chain Refusal) : Type 0 where
  pub is : x ≡ chain_read s (min room block_limit)
  pub columns : Columns ts qs zs → ColumnsRead s (min room block_limit) ts' qs' zs' x

-- a record checked with the rows of three columns, as many as a table has
pub record TableChecked (r : Chain) (ts qs zs : List ℕ) (x : Result ⊤ Refusal) : Type 0 where
  pub is : Even ts qs zs → x ≡ record_check r (take table_limit ts) (take table_limit qs) (take table_limit zs)

-- and written with them
pub record TableWrote (r : Chain) (tName qName ts qs zs before after : List ℕ) (x : Result ℕ Refusal) : Type 0 where
  pub is : Even ts qs zs → ChainWrote r tName qName (take table_limit ts) (take table_limit qs) (take table_limit zs) before after x
