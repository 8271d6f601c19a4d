-- For private contracts: what the steps of reading and writing promise each other. Not a definition of the format.
use Rattle.std.specs.Prelude.{ℕ, ◌+◌, ◌*◌, ◌≤◌, ◌≡◌, Bool, ◌&&◌, List, [], ◌∷◌, length, replicate, set, take, drop, Result}
use Rattle.ledger.specs.Limits.{name_limit, block_limit, largest_position}
use Rattle.ledger.specs.Strands.{strand_letter, is_told}
use Rattle.columns.specs.Names.{length_fits}
use Rattle.blocks.specs.Blocks.{count_fits}
use Rattle.blocks.specs.Readers.{RowsRead}
use Rattle.psl.specs.declared.Counts.{Counts}
use Rattle.psl.specs.declared.Psl.{Psl}
use Rattle.psl.specs.Columns as column
use Rattle.psl.specs.Records.{psl_sizes, psl_queries, psl_targets}
use Rattle.psl.specs.Read.{on_reading, Listed}
use Rattle.psl.specs.Tests.{fields_fit}
use Rattle.ledger.specs.declared.Fault.{Fault}

-- counts that columns hold are coordinates
pub record CountsRange (c : Counts) : Type 0 where
  pub matches : c.matches ≤ largest_position
  pub misMatches : c.misMatches ≤ largest_position
  pub repMatches : c.repMatches ≤ largest_position
  pub nCount : c.nCount ≤ largest_position
  pub qBaseInsert : c.qBaseInsert ≤ largest_position
  pub tBaseInsert : c.tBaseInsert ≤ largest_position

-- a record and its blocks, before its rules are tested
pub record Ready (s : List ℕ) (r : Psl) (lists : List ℕ) : Type 0 where
  pub held : Listed s r lists
  pub range : CountsRange r.counts

-- a reading, and the rows of a record that was read in the lent slices
abbrev pub RowsStored : Result Psl Fault → List ℕ → List ℕ → List ℕ → List ℕ → List ℕ → List ℕ → List ℕ → Result Psl Fault → Type 0
RowsStored answer s ts ts' qs qs' zs zs' x = RowsRead on_reading answer (λ (r : Psl). psl_targets s) (λ (r : Psl). psl_queries s) (λ (r : Psl). psl_sizes s) ts ts' qs qs' zs zs' x

-- what the record checker tests before the rows: the count of blocks, the names by length, the strand, the numbers
unfoldable pub head_fits : Psl → ℕ → Bool
head_fits r rows = count_fits r.blockCount rows && ((length_fits r.query.name.length && (length_fits r.target.name.length && is_told r.strand)) && fields_fit r)

-- a record's words as values, one a column: a name's is its length, and a list's too
abbrev pub column_values : Psl → ℕ → ℕ → List ℕ
column_values r query target =
    r.counts.matches ∷ r.counts.misMatches ∷ r.counts.repMatches ∷ r.counts.nCount ∷ r.counts.qNumInsert ∷ r.counts.qBaseInsert ∷ r.counts.tNumInsert ∷ r.counts.tBaseInsert
    ∷ strand_letter r.strand ∷ query ∷ r.query.size ∷ r.query.start ∷ r.query.end ∷ target ∷ r.target.size ∷ r.target.start ∷ r.target.end
    ∷ r.blockCount ∷ r.blockCount ∷ r.blockCount ∷ r.blockCount ∷ []

-- values stored in a table of two numbers a column, from a place on
unfoldable pub values_put : List ℕ → ℕ → List ℕ → List ℕ
values_put d at [] = d
values_put d at (v ∷ vs) = values_put (set d at v) (at + 2) vs

-- the table that the line writer takes: a column's value, and where a name stands in a text of names
unfoldable pub psl_values : Psl → ℕ → ℕ → List ℕ
psl_values r query target = set (values_put (replicate (2 * column.count) 0) 0 (column_values r query target)) (2 * column.t_name + 1) name_limit

-- the stages of writing a record that passed the checks: the three lists of its blocks
pub record RowsThere (n : ℕ) (ts qs zs lists : List ℕ) : Type 0 where
  pub long : length lists ≡ 3 * block_limit
  pub few : n ≤ block_limit
  pub targets : n ≤ length ts
  pub queries : n ≤ length qs
  pub sizes : n ≤ length zs

pub record ListsPut (n : ℕ) (ts qs zs lists : List ℕ) : Type 0 where
  pub sizes : take n (drop 0 lists) ≡ take n zs
  pub queries : take n (drop block_limit lists) ≡ take n qs
  pub targets : take n (drop (2 * block_limit) lists) ≡ take n ts

pub record Writable (r : Psl) (query target ts qs zs : List ℕ) : Type 0 where
  pub query_short : length query ≤ name_limit
  pub target_short : length target ≤ name_limit
  pub few : r.blockCount ≤ block_limit
  pub targets : r.blockCount ≤ length ts
  pub queries : r.blockCount ≤ length qs
  pub sizes : r.blockCount ≤ length zs
