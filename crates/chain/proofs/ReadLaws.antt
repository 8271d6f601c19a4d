-- What each step of reading a chain shows, on plain values. Assumes nothing.
use mathlib.Core.Path.{◌≡◌}
use mathlib.Core.List.{List}
use Prim.Native.Nat.{ℕ, ◌+◌, ◌*◌}
use lib.ListN.{set}
use borrow.Author.Tests.{ne_eqb, eq-eqb}
use Rattle.ledger.specs.Limits.{block_limit}
use Rattle.ledger.specs.Parts.{part_at}
use Rattle.ledger.specs.Strands.{strand_of, strand_is}
use Rattle.ledger.specs.declared.Strand.{Strand}
use Rattle.ledger.specs.declared.Part.{Part}
use Rattle.columns.specs.Columns.{value_of, place_of}
use Rattle.chain.specs.declared.Chain.{Chain}
use Rattle.chain.specs.declared.BlockLine.TheVariants.{Last, Gap}
use Rattle.chain.specs.Columns as column
use Rattle.chain.specs.Records.{name_of, chain_record}
use Rattle.chain.specs.Read.{block_is}
use Rattle.std.specs.Prelude.{Ok}

-- a name from its column
pub name_is : (vs : List ℕ) (k start length : ℕ) (r : Part) → start ≡ place_of vs k → length ≡ value_of vs k → r ≡ part_at start length → r ≡ name_of vs k
name_is vs k start length r e q h = rw (← e, ← q) h

-- a record from its columns
pub record_is : (vs : List ℕ) (n score tSize tStart tEnd qSize letter qStart qEnd id : ℕ) (tName qName : Part) (strand : Strand) → score ≡ value_of vs column.score
    → tName ≡ name_of vs column.t_name → tSize ≡ value_of vs column.t_size → tStart ≡ value_of vs column.t_start → tEnd ≡ value_of vs column.t_end
    → qName ≡ name_of vs column.q_name → qSize ≡ value_of vs column.q_size → letter ≡ value_of vs column.q_strand → strand ≡ strand_is (strand_of letter)
    → qStart ≡ value_of vs column.q_start → qEnd ≡ value_of vs column.q_end → id ≡ value_of vs column.id
    → ◌≡◌ {A = Chain} (record {
      score = score;
      tName = tName;
      tSize = tSize;
      tStart = tStart;
      tEnd = tEnd;
      qName = qName;
      qSize = qSize;
      qStrand = strand;
      qStart = qStart;
      qEnd = qEnd;
      id = id;
      blockCount = n;
    }) (chain_record vs n)
unfolding chain_record
record_is vs n score tSize tStart tEnd qSize letter qStart qEnd id tName qName strand e₁ e₂ e₃ e₄ e₅ e₆ e₇ e₈ e₉ e₁₀ e₁₁ e₁₂ =
    rw (e₂, e₆, e₉, e₁, e₃, e₄, e₅, e₇, e₈, e₁₀, e₁₁, e₁₂)

-- the block of a line's values
module _ (n : ℕ) (vs : List ℕ) (z : ℕ) (ez : z ≡ value_of vs column.size) where
  pub block_last : n ≡ column.last_count → Ok (Last z) ≡ block_is n vs
  block_last h = rw (eq-eqb n column.last_count h, ez)

  pub block_gap : (dt dq : ℕ) → (n ≡ column.last_count → ⊥) → dt ≡ value_of vs column.dt → dq ≡ value_of vs column.dq → Ok (Gap z dt dq) ≡ block_is n vs
  block_gap dt dq h et eq = rw (ne_eqb n column.last_count h, ez, et, eq)

-- a row stored
pub row_put : (l l₁ l₂ l₃ : List ℕ) (i t q z : ℕ) → l₁ ≡ set l i t → l₂ ≡ set l₁ (block_limit + i) q → l₃ ≡ set l₂ (2 * block_limit + i) z → l₃ ≡ set (set (set l i t) (block_limit + i) q) (2 * block_limit + i) z
row_put l l₁ l₂ l₃ i t q z e₁ e₂ e₃ = rw (e₃, e₂, e₁)
