-- What a BED line and a BED record are: the rules of the UCSC page and of 01, one field for each, with no order of checks in them.
use Rattle.std.specs.Prelude.{ℕ, suc, ◌-◌, ◌*◌, ◌≤◌, ◌<◌, ◌≡◌, List, [], ◌∷◌, cond, ltb, length, take, get_or}
use Rattle.ledger.specs.declared.Strand.TheVariants.{Dot}
use Rattle.ledger.specs.Limits.{text_limit, name_limit, largest_position, bed_score_limit, colour_limit}
use Rattle.ledger.specs.Strands.{strand_letter}
use Rattle.ledger.specs.Parts.{part_at}
use Rattle.text.specs.declared.Class.TheVariants.{Allowed}
use Rattle.text.specs.Scan.{run}
use Rattle.text.specs.Pieces.{lines_of, line_of, words_of}
use Rattle.text.specs.Words.{word_at, word_count}
use Rattle.columns.specs.Spells.{Spells}
use Rattle.columns.specs.Names.{part_of}
use Rattle.blocks.specs.Rules.{Fills, Sums, RowsInUse}
use Rattle.bed.specs.declared.Bed.{Bed}
use Rattle.bed.specs.Columns as column
use Rattle.bed.specs.Table.{bed_columns}

-- a BED line has 3 to 9 words, or 12
pub data WordNumber : ℕ → Type 0 where
  three_to_nine : {n : ℕ} → 3 ≤ n → n ≤ 9 → WordNumber n
  twelve : WordNumber column.all

-- the text s is a BED line whose words spell the values vs and the lists ls, one a column; the record r, and the starts and sizes of its blocks, are what
-- it says
pub record BedLine (s vs : List ℕ) (ls : List (List ℕ)) (r : Bed) (starts sizes : List ℕ) : Type 0 where
  -- the text
  pub short : length s ≤ text_limit
  pub allowed : run Allowed s ≡ length s
  pub one_line : lines_of s ≡ line_of s ∷ []
  -- its words
  pub number : WordNumber (word_count s 0)
  pub spelt : Spells (take (word_count s 0) bed_columns) 0 (words_of (line_of s)) vs ls
  -- the record is what they spell
  pub words : r.words ≡ word_count s 0
  pub chrom : r.chrom ≡ part_of (word_at s 0 column.chrom)
  pub chromStart : r.chromStart ≡ get_or vs column.chrom_start 0
  pub chromEnd : r.chromEnd ≡ get_or vs column.chrom_end 0
  pub name : column.name < r.words → r.name ≡ part_of (word_at s 0 column.name)
  pub score : column.score < r.words → r.score ≡ get_or vs column.score 0
  pub strand : column.strand < r.words → strand_letter r.strand ≡ get_or vs column.strand 0
  pub thickStart : column.thick_start < r.words → r.thickStart ≡ get_or vs column.thick_start 0
  pub thickEnd : column.thick_end < r.words → r.thickEnd ≡ get_or vs column.thick_end 0
  pub itemRgb : column.item_rgb < r.words → r.itemRgb ≡ get_or vs column.item_rgb 0
  pub blockCount : column.block_count < r.words → r.blockCount ≡ get_or vs column.block_count 0
  pub listed_sizes : column.block_count < r.words → sizes ≡ get_or ls column.block_sizes []
  pub listed_starts : column.block_count < r.words → starts ≡ get_or ls column.block_starts []
  -- columns left out hold their defaults; one block, the span
  pub no_name : r.words ≤ column.name → r.name ≡ record { start = length s; length = 0 }
  pub no_score : r.words ≤ column.score → r.score ≡ 0
  pub no_strand : r.words ≤ column.strand → r.strand ≡ Dot
  pub no_thick_start : r.words ≤ column.thick_start → r.thickStart ≡ r.chromStart
  pub no_thick_end : r.words ≤ column.thick_end → r.thickEnd ≡ r.chromEnd
  pub no_item_rgb : r.words ≤ column.item_rgb → r.itemRgb ≡ 0
  pub no_blocks : r.words ≤ column.block_count → r.blockCount ≡ 1
  pub span_size : r.words ≤ column.block_count → sizes ≡ (r.chromEnd - r.chromStart) ∷ []
  pub span_start : r.words ≤ column.block_count → starts ≡ 0 ∷ []
  -- the spans
  pub span : r.chromStart < r.chromEnd
  pub thick_low : r.chromStart ≤ r.thickStart
  pub thick_order : r.thickStart ≤ r.thickEnd
  pub thick_high : r.thickEnd ≤ r.chromEnd
  -- the blocks, from chromStart on
  pub blocks : Fills 0 (r.chromEnd - r.chromStart) r.blockCount starts sizes

-- the record r with the first blockCount rows of ts, qs, zs is a BED record
pub record BedRules (r : Bed) (ts qs zs : List ℕ) : Type 0 where
  -- the rows in use
  pub rows : RowsInUse r.blockCount ts qs zs
  -- words and names
  pub number : WordNumber r.words
  pub chrom_some : 1 ≤ r.chrom.length
  pub chrom_short : r.chrom.length ≤ name_limit
  pub name_some : column.name < r.words → 1 ≤ r.name.length
  pub name_short : column.name < r.words → r.name.length ≤ name_limit
  -- ranges
  pub start_range : r.chromStart ≤ largest_position
  pub end_range : r.chromEnd ≤ largest_position
  pub score_range : column.score < r.words → r.score ≤ bed_score_limit
  pub thick_start_range : column.thick_start < r.words → r.thickStart ≤ largest_position
  pub thick_end_range : column.thick_end < r.words → r.thickEnd ≤ largest_position
  pub colour_range : column.item_rgb < r.words → r.itemRgb < suc colour_limit * suc colour_limit * suc colour_limit
  -- columns left out hold their defaults
  pub no_name : r.words ≤ column.name → r.name.length ≡ 0
  pub no_score : r.words ≤ column.score → r.score ≡ 0
  pub no_strand : r.words ≤ column.strand → r.strand ≡ Dot
  pub no_thick_start : r.words ≤ column.thick_start → r.thickStart ≡ r.chromStart
  pub no_thick_end : r.words ≤ column.thick_end → r.thickEnd ≡ r.chromEnd
  pub no_item_rgb : r.words ≤ column.item_rgb → r.itemRgb ≡ 0
  pub no_blocks : r.words ≤ column.block_count → r.blockCount ≡ 1
  -- the spans
  pub span : r.chromStart < r.chromEnd
  pub thick_low : r.chromStart ≤ r.thickStart
  pub thick_order : r.thickStart ≤ r.thickEnd
  pub thick_high : r.thickEnd ≤ r.chromEnd
  -- the blocks
  pub blocks : Fills r.chromStart r.chromEnd r.blockCount ts zs
  pub sums : Sums r.blockCount qs zs

-- the record with names of these lengths
abbrev pub named : Bed → List ℕ → List ℕ → Bed
named r chrom name = record {
  words = r.words;
  chrom = part_at 0 (length chrom);
  chromStart = r.chromStart;
  chromEnd = r.chromEnd;
  name = part_at 0 (length name);
  score = r.score;
  strand = r.strand;
  thickStart = r.thickStart;
  thickEnd = r.thickEnd;
  itemRgb = r.itemRgb;
  blockCount = r.blockCount;
}

-- the record with its names where they stand in a text: what the reader makes of the record's standard text
unfoldable pub placed : List ℕ → Bed → Bed
placed s r = record {
  words = r.words;
  chrom = part_of (word_at s 0 column.chrom);
  chromStart = r.chromStart;
  chromEnd = r.chromEnd;
  name = cond (ltb column.name r.words) (part_of (word_at s 0 column.name)) (record { start = length s; length = 0 });
  score = r.score;
  strand = r.strand;
  thickStart = r.thickStart;
  thickEnd = r.thickEnd;
  itemRgb = r.itemRgb;
  blockCount = r.blockCount;
}
