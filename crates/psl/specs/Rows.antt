-- The rules of a PSL record's rows, as tests.
use Rattle.std.specs.Prelude.{ℕ, ◌+◌, Bool, ◌&&◌, List, eqb}
use Rattle.blocks.specs.Blocks.{blocks_fill, sum_of, gap_count, gap_bases}
use Rattle.blocks.specs.Strands.{strand_start, strand_end}
use Rattle.psl.specs.declared.Counts.{Counts}
use Rattle.psl.specs.declared.Psl.{Psl}

-- blocks in order on both sides, from first start to last end, on the query as its strand counts (9)
unfoldable pub rows_fit : Psl → List ℕ → List ℕ → List ℕ → Bool
rows_fit r ts qs zs =
    blocks_fill r.target.start r.target.end ts zs
    && blocks_fill (strand_start r.strand r.query.size r.query.start r.query.end) (strand_end r.strand r.query.size r.query.start r.query.end) qs zs

-- the house counts (10): the first four sum to the block sizes; each insert pair is the number of nonempty gaps on its side and their bases
unfoldable pub counts_fit : Counts → List ℕ → List ℕ → List ℕ → Bool
counts_fit c ts qs zs =
    eqb (sum_of zs) (c.matches + c.misMatches + c.repMatches + c.nCount)
    && (eqb (gap_count qs zs) c.qNumInsert && (eqb (gap_bases qs zs) c.qBaseInsert
    && (eqb (gap_count ts zs) c.tNumInsert && eqb (gap_bases ts zs) c.tBaseInsert)))
