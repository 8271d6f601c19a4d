-- BED as a format of the demands.
use Rattle.std.specs.Prelude.{ℕ, ◌≡◌, List, [], length, get_or, Ok, Err, Result}
use Rattle.ledger.specs.declared.Row.{Row}
use Rattle.ledger.specs.declared.Refusal.{Refusal}
use Rattle.text.specs.declared.Class.TheVariants.{Graphic}
use Rattle.text.specs.Scan.{run}
use Rattle.text.specs.Pieces.{line_of, words_of}
use Rattle.text.specs.Parts.{part_in, part_bytes}
use Rattle.blocks.specs.Blocks.{shifted, sums_from}
use Rattle.blocks.specs.Rows.{table_of, targets_of, queries_of, sizes_of}
use Rattle.bed.specs.declared.Bed.{Bed}
use Rattle.bed.specs.Rules.{BedLine, BedRules, named}
use Rattle.bed.specs.Write.{bed_text, BedWrote, record_check}
use Rattle.table_bed.specs.Rows.{RowsRead}
use Rattle.entries.specs.Records.{bed_numbers}
use Rattle.demands.specs.Formats.{Names, Format}

-- the text is a BED line (bed, specs/Rules.antt): its words spell some values and lists, and record and rows are what they say
pub record BedSpells (s : List ℕ) (r : Bed) (rows : List Row) : Type 0 where
  pub values : List ℕ
  pub lists : List (List ℕ)
  pub starts : List ℕ
  pub sizes : List ℕ
  pub line : BedLine s values lists r starts sizes
  -- a row for each block: chromStart plus its start; the sum of the earlier sizes; its size
  pub rows_said : rows ≡ table_of (shifted r.chromStart starts) (sums_from 0 sizes) sizes

-- the names, chrom and name
abbrev pub bed_names : List ℕ → Bed → Names
bed_names s r = record { first = part_bytes s r.chrom; second = part_bytes s r.name }

abbrev pub bed_handed : List ℕ → Bed → Names
bed_handed s r = record { first = part_bytes s (part_in s r.chrom); second = part_bytes s (part_in s r.name) }

abbrev pub bed_name_words : List ℕ → Names
bed_name_words s = record { first = get_or (words_of (line_of s)) 0 []; second = get_or (words_of (line_of s)) 3 [] }

pub record BedValid (r : Bed) (ns : Names) (table : List Row) : Type 0 where
  pub rules : BedRules (named r ns.first ns.second) (targets_of table) (queries_of table) (sizes_of table)
  pub chrom_shows : run Graphic ns.first ≡ length ns.first
  pub name_shows : run Graphic ns.second ≡ length ns.second

pub record SameBed (r r' : Bed) : Type 0 where
  pub words : r'.words ≡ r.words
  pub chromStart : r'.chromStart ≡ r.chromStart
  pub chromEnd : r'.chromEnd ≡ r.chromEnd
  pub score : r'.score ≡ r.score
  pub strand : r'.strand ≡ r.strand
  pub thickStart : r'.thickStart ≡ r.thickStart
  pub thickEnd : r'.thickEnd ≡ r.thickEnd
  pub itemRgb : r'.itemRgb ≡ r.itemRgb
  pub blockCount : r'.blockCount ≡ r.blockCount

unfoldable pub bed : Format
bed = record {
  Record = Bed;
  blocks = λ r. r.blockCount;
  Answer = Result Bed Refusal;
  accepted = Ok;
  refused = Err;
  Spells = BedSpells;
  names = bed_names;
  handed = bed_handed;
  name_words = bed_name_words;
  Reads = RowsRead;
  check = λ r table. record_check r (targets_of table) (queries_of table) (sizes_of table);
  Rules = λ r table. BedRules r (targets_of table) (queries_of table) (sizes_of table);
  Valid = BedValid;
  text = λ r ns table. bed_text r ns.first ns.second (targets_of table) (sizes_of table);
  Writes = λ r ns table. BedWrote r ns.first ns.second (targets_of table) (queries_of table) (sizes_of table);
  SameNumbers = SameBed;
  kind = 1;
  numbers = bed_numbers;
}
