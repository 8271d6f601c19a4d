-- The rules of a PSL record with its rows, as tests. The record checker asks for all of them; the writer asks for them in its order.
use Rattle.std.specs.Prelude.{ℕ, Bool, ◌&&◌, List, take, leb}
use Rattle.ledger.specs.Strands.{is_told}
use Rattle.ledger.specs.Limits.{largest_position}
use Rattle.blocks.specs.Blocks.{count_fits, rows_of, row_numbers_fit, span_fits}
use Rattle.psl.specs.declared.Counts.{Counts}
use Rattle.psl.specs.declared.Side.{Side}
use Rattle.psl.specs.declared.Psl.{Psl}
use Rattle.psl.specs.Rows.{rows_fit, counts_fit}
use Rattle.columns.specs.Names.{length_fits}

-- the numbers of a side: a size of at least 1
abbrev pub side_fits : Side → Bool
side_fits x = (leb 1 x.size && leb x.size largest_position) && (leb x.start largest_position && leb x.end largest_position)

-- the counts
unfoldable pub count_numbers_fit : Counts → Bool
count_numbers_fit c =
    leb c.matches largest_position && (leb c.misMatches largest_position && (leb c.repMatches largest_position && (leb c.nCount largest_position
    && (leb c.qNumInsert largest_position && (leb c.qBaseInsert largest_position && (leb c.tNumInsert largest_position && leb c.tBaseInsert largest_position))))))

-- the numbers of the record
unfoldable pub fields_fit : Psl → Bool
fields_fit r = count_numbers_fit r.counts && (side_fits r.query && side_fits r.target)

-- the spans of both sides
unfoldable pub spans_fit : Psl → Bool
spans_fit r = span_fits r.query.start r.query.end r.query.size && span_fits r.target.start r.target.end r.target.size

-- a valid record with its rows: the first blockCount rows of the three slices
unfoldable pub psl_valid : Psl → List ℕ → List ℕ → List ℕ → Bool
psl_valid r ts qs zs =
    count_fits r.blockCount (rows_of ts qs zs)
    && ((length_fits r.query.name.length && (length_fits r.target.name.length && is_told r.strand))
    && (fields_fit r
    && (row_numbers_fit (take r.blockCount ts) (take r.blockCount qs) (take r.blockCount zs)
    && (spans_fit r
    && (rows_fit r (take r.blockCount ts) (take r.blockCount qs) (take r.blockCount zs)
    && counts_fit r.counts (take r.blockCount ts) (take r.blockCount qs) (take r.blockCount zs))))))
