-- Turning a chain (01, "Pairs, lifting, turning"): sides exchanged; with `-`, both spans converted and the blocks reversed, so that the new target is `+`.
use Rattle.std.specs.Prelude.{ℕ, zero, suc, ◌+◌, ◌-◌, ◌≤◌, ◌<◌, ◌≡◌, List, [], ◌∷◌, map, reverse, length, get_or, leb, Ok, Err, Result}
use Rattle.std.proofs.lemmas.List.Edits.{sets}
use Rattle.blocks.specs.Strands.{strand_start, strand_end}
use Rattle.ledger.specs.Refusals.{without_text, require}
use Rattle.ledger.specs.declared.Reason.{Reason}
use Rattle.ledger.specs.declared.Reason.TheVariants.{BlockRules, NoRoom}
use Rattle.ledger.specs.declared.Strand.{Strand}
use Rattle.ledger.specs.declared.Strand.TheVariants.{Plus, Minus, Dot}
use Rattle.ledger.specs.declared.Row.{Row}
use Rattle.ledger.specs.Limits.{largest_position}
use Rattle.blocks.specs.Blocks.{rows_of}
use Rattle.blocks.specs.Rows.{targets_of, queries_of, sizes_of, target_end, query_end}
use Rattle.chain.specs.declared.Chain.{Chain}
use Rattle.lift.specs.Accepted.{accepted, used}
use Rattle.lift.specs.Pairs.{Pair, pair}
use Rattle.ledger.specs.declared.Refusal.{Refusal}

-- a row with its sides exchanged
abbrev pub swap_row : Row → Row
swap_row b = record { target = b.query; query = b.target; size = b.size }

-- the same, and both spans converted: each side's start is the sequence's size less the block's end
abbrev pub turn_row : ℕ → ℕ → Row → Row
turn_row tSize qSize b = record { target = qSize - query_end b; query = tSize - target_end b; size = b.size }

abbrev pub turned_rows_on : Strand → ℕ → ℕ → List Row → List Row
turned_rows_on Plus tSize qSize bs = map swap_row bs
turned_rows_on Minus tSize qSize bs = reverse (map (turn_row tSize qSize) bs)
turned_rows_on Dot tSize qSize bs = map swap_row bs

-- a pair with its sides exchanged
abbrev pub swap_pair : Pair → Pair
swap_pair x = pair x.query x.target

-- THE TURNED ROWS
unfoldable pub turned_rows : Chain → List Row → List Row
turned_rows c rows = turned_rows_on c.qStrand c.tSize c.qSize (used c rows)

-- THE TURNED RECORD: score, id, strand and count stay
unfoldable pub turned : Chain → Chain
turned c = record {
  score = c.score;
  tName = c.qName;
  tSize = c.qSize;
  tStart = strand_start c.qStrand c.qSize c.qStart c.qEnd;
  tEnd = strand_end c.qStrand c.qSize c.qStart c.qEnd;
  qName = c.tName;
  qSize = c.tSize;
  qStrand = c.qStrand;
  qStart = strand_start c.qStrand c.tSize c.tStart c.tEnd;
  qEnd = strand_end c.qStrand c.tSize c.tStart c.tEnd;
  id = c.id;
  blockCount = c.blockCount;
}

abbrev pub not_turned : Reason → Result Chain Refusal
not_turned why = Err (without_text why)

-- THE TURN into a table with so much room: no accepted chain (9), then the room (11), each at place 0
unfoldable pub turn : Chain → List Row → ℕ → Result Chain Refusal
turn c rows room =
    require (accepted c rows) (not_turned BlockRules)
    (require (leb c.blockCount room) (not_turned NoRoom) (Ok (turned c)))

-- what a lent slice holds then: the turned rows' numbers from its front, the rest as before; after a refusal, what it held
abbrev pub column_after : Result Chain Refusal → List ℕ → List ℕ → List ℕ
column_after (Ok c) new before = sets before 0 new
column_after (Err x) new before = before

-- what the turn promises: the answer, and three lent slices
pub record TurnedInto (c : Chain) (rows : List Row) (ts qs zs ts' qs' zs' : List ℕ) (r : Result Chain Refusal) : Type 0 where
  pub is : r ≡ turn c rows (rows_of ts qs zs)
  pub targets : ts' ≡ column_after r (targets_of (turned_rows c rows)) ts
  pub queries : qs' ≡ column_after r (queries_of (turned_rows c rows)) qs
  pub sizes : zs' ≡ column_after r (sizes_of (turned_rows c rows)) zs

-- ---- slice by slice, as the code goes
-- the row that the turned row i of n comes from
abbrev pub source_of : Strand → ℕ → ℕ → ℕ
source_of Plus n i = i
source_of Minus n i = n - 1 - i
source_of Dot n i = i

-- f a, f (a + 1), .. n of them
unfoldable pub list_of : (ℕ → ℕ) → ℕ → ℕ → List ℕ
list_of f a zero = []
list_of f a (suc n) = f a ∷ list_of f (suc a) n

-- a side's new start in row i, from the other side's starts xs and the sizes zs
abbrev pub start_at : Strand → ℕ → ℕ → List ℕ → List ℕ → ℕ → ℕ
start_at k size n xs zs i = strand_start k size (get_or xs (source_of k n i) 0) (get_or xs (source_of k n i) 0 + get_or zs (source_of k n i) 0)

abbrev pub size_at : Strand → ℕ → List ℕ → ℕ → ℕ
size_at k n zs i = get_or zs (source_of k n i) 0

-- blocks that lie within a side, and room for as many
pub record Fillable (size n : ℕ) (xs zs out : List ℕ) : Type 0 where
  pub starts : n ≤ length xs
  pub sizes : n ≤ length zs
  pub room : n ≤ length out
  pub most : size ≤ largest_position
  pub within : (i : ℕ) → i < n → get_or xs i 0 + get_or zs i 0 ≤ size

-- both spans lie within their sequences
pub record SpansFit (c : Chain) : Type 0 where
  pub tStart : c.tStart ≤ c.tSize
  pub tEnd : c.tEnd ≤ c.tSize
  pub qStart : c.qStart ≤ c.qSize
  pub qEnd : c.qEnd ≤ c.qSize
