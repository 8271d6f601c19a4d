-- The rules of a chain record with its rows, as tests. The record checker asks for all of them; the writer asks for them in its order.
use Rattle.std.specs.Prelude.{ℕ, Bool, ◌&&◌, List, take, leb}
use Rattle.ledger.specs.Strands.{is_told}
use Rattle.ledger.specs.Limits.{largest_position, chain_score_limit, chain_id_limit}
use Rattle.blocks.specs.Blocks.{blocks_fill, count_fits, rows_of, row_numbers_fit, span_fits}
use Rattle.chain.specs.declared.Chain.{Chain}
use Rattle.columns.specs.Names.{length_fits}

-- the two names by their lengths
unfoldable pub names_fit : ℕ → ℕ → Bool
names_fit t q = length_fits t && length_fits q

-- a sequence's size is at least 1
abbrev pub size_fits : ℕ → Bool
size_fits n = leb 1 n && leb n largest_position

-- the numbers of the record in their ranges
unfoldable pub fields_fit : Chain → Bool
fields_fit r =
    leb r.score chain_score_limit && (size_fits r.tSize && (leb r.tStart largest_position && (leb r.tEnd largest_position
    && (size_fits r.qSize && (leb r.qStart largest_position && (leb r.qEnd largest_position && leb r.id chain_id_limit))))))

-- the spans of both sides
unfoldable pub spans_fit : Chain → Bool
spans_fit r = span_fits r.tStart r.tEnd r.tSize && span_fits r.qStart r.qEnd r.qSize

-- the blocks fill the spans of both sides
unfoldable pub rows_fit : Chain → List ℕ → List ℕ → List ℕ → Bool
rows_fit r ts qs zs = blocks_fill r.tStart r.tEnd ts zs && blocks_fill r.qStart r.qEnd qs zs

-- a valid record with its rows: the first blockCount rows of the three slices
unfoldable pub chain_valid : Chain → List ℕ → List ℕ → List ℕ → Bool
chain_valid r ts qs zs =
    count_fits r.blockCount (rows_of ts qs zs)
    && (names_fit r.tName.length r.qName.length
    && (is_told r.qStrand
    && (fields_fit r
    && (row_numbers_fit (take r.blockCount ts) (take r.blockCount qs) (take r.blockCount zs)
    && (spans_fit r
    && rows_fit r (take r.blockCount ts) (take r.blockCount qs) (take r.blockCount zs))))))
