-- A record and its rows as numbers (docs/DESK.md, "What `parse` writes").
use Rattle.std.specs.Prelude.{ℕ, ◌≤◌, ◌≡◌, List, [], ◌∷◌, length, take, Ok, Result}
use Rattle.ledger.specs.declared.Row.{Row}
use Rattle.ledger.specs.Limits.{block_limit}
use Rattle.ledger.specs.Strands.{strand_letter}
use Rattle.ledger.specs.declared.Refusal.{Refusal}
use Rattle.blocks.specs.Rows.{targets_of, queries_of, sizes_of}
use Rattle.bed.specs.declared.Bed.{Bed}
use Rattle.bed.specs.Records.{bed_targets, bed_queries, bed_sizes}
use Rattle.bed.specs.Read.{bed_check}
use Rattle.psl.specs.declared.Psl.{Psl}
use Rattle.psl.specs.Records.{psl_targets, psl_queries, psl_sizes}
use Rattle.psl.specs.Read.{psl_check}
use Rattle.chain.specs.declared.Chain.{Chain}
use Rattle.chain.specs.Records.{chain_targets, chain_queries, chain_sizes}
use Rattle.chain.specs.Read.{chain_check}
use Rattle.turn.specs.Turns as turns

-- a name is where it stands and its length, a strand its letter
unfoldable pub bed_numbers : Bed → List ℕ
bed_numbers r =
    r.words ∷ r.chrom.start ∷ r.chrom.length ∷ r.chromStart ∷ r.chromEnd ∷ r.name.start ∷ r.name.length ∷ r.score ∷ strand_letter r.strand
    ∷ r.thickStart ∷ r.thickEnd ∷ r.itemRgb ∷ r.blockCount ∷ []

unfoldable pub psl_numbers : Psl → List ℕ
psl_numbers r =
    r.counts.matches ∷ r.counts.misMatches ∷ r.counts.repMatches ∷ r.counts.nCount ∷ r.counts.qNumInsert ∷ r.counts.qBaseInsert
    ∷ r.counts.tNumInsert ∷ r.counts.tBaseInsert ∷ strand_letter r.strand
    ∷ r.query.name.start ∷ r.query.name.length ∷ r.query.size ∷ r.query.start ∷ r.query.end
    ∷ r.target.name.start ∷ r.target.name.length ∷ r.target.size ∷ r.target.start ∷ r.target.end ∷ r.blockCount ∷ []

unfoldable pub chain_numbers : Chain → List ℕ
chain_numbers r =
    r.score ∷ r.tName.start ∷ r.tName.length ∷ r.tSize ∷ r.tStart ∷ r.tEnd ∷ r.qName.start ∷ r.qName.length ∷ r.qSize
    ∷ strand_letter r.qStrand ∷ r.qStart ∷ r.qEnd ∷ r.id ∷ r.blockCount ∷ []

-- three slices with room for a record's blocks
pub record Staging (ts qs zs : List ℕ) : Type 0 where
  pub targets : length ts ≡ block_limit
  pub queries : length qs ≡ block_limit
  pub sizes : length zs ≡ block_limit

-- the first n rows of three such slices are those of the lists ts, qs, zs
pub record Held (n : ℕ) (ts qs zs ts' qs' zs' : List ℕ) : Type 0 where
  pub few : n ≤ block_limit
  pub stage : Staging ts' qs' zs'
  pub targets : take n ts' ≡ ts
  pub queries : take n qs' ≡ qs
  pub sizes : take n zs' ≡ zs

-- what reading a text into them promises
pub record BedStaged (s ts' qs' zs' : List ℕ) (x : Result Bed Refusal) : Type 0 where
  pub is : x ≡ bed_check s
  pub held : (r : Bed) → x ≡ Ok r → Held r.blockCount (bed_targets s r) (bed_queries s r) (bed_sizes s r) ts' qs' zs'

pub record PslStaged (s ts' qs' zs' : List ℕ) (x : Result Psl Refusal) : Type 0 where
  pub is : x ≡ psl_check s
  pub held : (r : Psl) → x ≡ Ok r → Held r.blockCount (psl_targets s) (psl_queries s) (psl_sizes s) ts' qs' zs'

pub record ChainStaged (s ts' qs' zs' : List ℕ) (x : Result Chain Refusal) : Type 0 where
  pub is : x ≡ chain_check s
  pub held : (r : Chain) → x ≡ Ok r → Held r.blockCount (chain_targets s r) (chain_queries s r) (chain_sizes s r) ts' qs' zs'

-- and what turning a chain into them promises
pub record TurnStaged (c : Chain) (rows : List Row) (ts' qs' zs' : List ℕ) (x : Result Chain Refusal) : Type 0 where
  pub is : x ≡ turns.turn c rows block_limit
  pub held : (d : Chain) → x ≡ Ok d → Held d.blockCount (targets_of (turns.turned_rows c rows)) (queries_of (turns.turned_rows c rows)) (sizes_of (turns.turned_rows c rows)) ts' qs' zs'
