-- The record of a BED line: what its columns say, and what columns left out hold.
use Rattle.std.specs.Prelude.{ℕ, ◌-◌, Bool, ◌&&◌, ◌||◌, cond, List, [], ◌∷◌, leb, ltb, eqb}
use Rattle.ledger.specs.declared.Strand.TheVariants.{Dot}
use Rattle.ledger.specs.declared.Row.{Row}
use Rattle.ledger.specs.Strands.{strand_of, strand_is, strand_letter}
use Rattle.ledger.specs.Parts.{part_at}
use Rattle.text.specs.Words.{word_at, bytes_of}
use Rattle.numbers.specs.Lists.{values_of}
use Rattle.columns.specs.Columns.{value_of, place_of}
use Rattle.blocks.specs.Blocks.{shifted, sums_from}
use Rattle.blocks.specs.Rows.{table_of}
use Rattle.bed.specs.declared.Bed.{Bed}
use Rattle.bed.specs.Columns as column

-- a BED line has 3 to 9 words, or 12
abbrev pub is_word_count : ℕ → Bool
is_word_count n = leb 3 n && (leb n 9 || eqb n column.all)

-- the values of a reader: two numbers a column, its value and where its word starts. Of a column left out, past the n words, a default
abbrev pub value_or : ℕ → List ℕ → ℕ → ℕ → ℕ
value_or n vs k d = cond (ltb k n) (value_of vs k) d

abbrev pub place_or : ℕ → List ℕ → ℕ → ℕ → ℕ
place_or n vs k d = cond (ltb k n) (place_of vs k) d

-- the record of a line of n words whose columns hold vs, in a text of a length. Left out: an empty name at the text's end, score 0, strand `.`, thick the
-- whole span, colour 0, one block
unfoldable pub bed_record : ℕ → ℕ → List ℕ → Bed
bed_record n len vs = record {
  words = n;
  chrom = part_at (place_of vs column.chrom) (value_of vs column.chrom);
  chromStart = value_of vs column.chrom_start;
  chromEnd = value_of vs column.chrom_end;
  name = part_at (place_or n vs column.name len) (value_or n vs column.name 0);
  score = value_or n vs column.score 0;
  strand = strand_is (strand_of (value_or n vs column.strand (strand_letter Dot)));
  thickStart = value_or n vs column.thick_start (value_of vs column.chrom_start);
  thickEnd = value_or n vs column.thick_end (value_of vs column.chrom_end);
  itemRgb = value_or n vs column.item_rgb 0;
  blockCount = value_or n vs column.block_count 1;
}

-- the sizes and the starts of the blocks, from chromStart on; where the block columns are left out, one block, the span
unfoldable pub bed_sizes : List ℕ → Bed → List ℕ
bed_sizes s r = cond (eqb r.words column.all) (values_of (bytes_of s (word_at s 0 column.block_sizes))) ((r.chromEnd - r.chromStart) ∷ [])

unfoldable pub bed_starts : List ℕ → Bed → List ℕ
bed_starts s r = cond (eqb r.words column.all) (values_of (bytes_of s (word_at s 0 column.block_starts))) (0 ∷ [])

-- the rows: chromStart plus block start; the sum of the earlier sizes; the size
unfoldable pub bed_targets : List ℕ → Bed → List ℕ
bed_targets s r = shifted r.chromStart (bed_starts s r)

unfoldable pub bed_queries : List ℕ → Bed → List ℕ
bed_queries s r = sums_from 0 (bed_sizes s r)

-- the same as a table
abbrev pub bed_rows : List ℕ → Bed → List Row
bed_rows s r = table_of (bed_targets s r) (bed_queries s r) (bed_sizes s r)
