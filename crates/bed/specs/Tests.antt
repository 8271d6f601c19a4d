-- The rules of a BED record with its rows, as tests. The record checker asks for all of them; the writer asks for them in its order.
use Rattle.std.specs.Prelude.{ℕ, suc, ◌*◌, Bool, true, false, ◌&&◌, cond, List, take, leb, ltb, eqb}
use Rattle.ledger.specs.declared.Strand.{Strand}
use Rattle.ledger.specs.declared.Strand.TheVariants.{Plus, Minus, Dot}
use Rattle.ledger.specs.Limits.{largest_position, bed_score_limit, colour_limit}
use Rattle.blocks.specs.Blocks.{blocks_fill, are_sums, count_fits, rows_of, row_numbers_fit}
use Rattle.bed.specs.declared.Bed.{Bed}
use Rattle.bed.specs.Columns as column
use Rattle.bed.specs.Records.{is_word_count}
use Rattle.bed.specs.Read.{thick_fits}
use Rattle.columns.specs.Names.{length_fits}

-- of column k, counted from 0: a test where it is there, and another where it is left out, past the word count
abbrev pub if_there : ℕ → ℕ → Bool → Bool → Bool
if_there n k there left = cond (ltb k n) there left

-- the two names by their lengths; a name left out is empty
unfoldable pub names_fit : ℕ → ℕ → ℕ → Bool
names_fit n chrom name = length_fits chrom && if_there n column.name (length_fits name) (eqb name 0)

abbrev pub is_dot : Strand → Bool
is_dot Plus = false
is_dot Minus = false
is_dot Dot = true

-- a strand left out is `.`
unfoldable pub strand_fits : Bed → Bool
strand_fits r = if_there r.words column.strand true (is_dot r.strand)

-- the number of words, and the numbers of the record in their ranges; a number left out holds its default
unfoldable pub fields_fit : Bed → Bool
fields_fit r =
    is_word_count r.words && (leb r.chromStart largest_position && (leb r.chromEnd largest_position
    && (if_there r.words column.score (leb r.score bed_score_limit) (eqb r.score 0)
    && (if_there r.words column.thick_start (leb r.thickStart largest_position) (eqb r.thickStart r.chromStart)
    && (if_there r.words column.thick_end (leb r.thickEnd largest_position) (eqb r.thickEnd r.chromEnd)
    && if_there r.words column.item_rgb (ltb r.itemRgb (suc colour_limit * suc colour_limit * suc colour_limit)) (eqb r.itemRgb 0))))))

-- the spans
unfoldable pub spans_fit : Bed → Bool
spans_fit r = ltb r.chromStart r.chromEnd && thick_fits r

-- the blocks: where the block columns are left out there is one; they fill the span, and each query start is the sum of the earlier sizes
unfoldable pub rows_fit : Bed → List ℕ → List ℕ → List ℕ → Bool
rows_fit r ts qs zs = if_there r.words column.block_count true (eqb r.blockCount 1) && (blocks_fill r.chromStart r.chromEnd ts zs && are_sums 0 qs zs)

-- a valid record with its rows: the first blockCount rows of the three slices
unfoldable pub bed_valid : Bed → List ℕ → List ℕ → List ℕ → Bool
bed_valid r ts qs zs =
    count_fits r.blockCount (rows_of ts qs zs)
    && (names_fit r.words r.chrom.length r.name.length
    && (strand_fits r
    && (fields_fit r
    && (row_numbers_fit (take r.blockCount ts) (take r.blockCount qs) (take r.blockCount zs)
    && (spans_fit r
    && rows_fit r (take r.blockCount ts) (take r.blockCount qs) (take r.blockCount zs))))))
