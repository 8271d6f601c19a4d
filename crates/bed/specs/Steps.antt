-- For private contracts: what the steps of reading and writing a BED line promise. Not a definition of the format.
use Rattle.std.specs.Prelude.{ℕ, ◌-◌, ◌*◌, ◌≤◌, ◌<◌, ◌≡◌, Bool, true, ◌&&◌, cond, List, [], ◌∷◌, length, take, drop, set, leb, eqb, Ok, Result, Option, Some}
use Rattle.ledger.specs.Limits.{name_limit, block_limit, largest_position}
use Rattle.ledger.specs.Strands.{strand_letter}
use Rattle.ledger.specs.declared.Fault.{Fault}
use Rattle.text.specs.Steps.{Staged}
use Rattle.text.specs.Words.{word_at, word_count, bytes_of}
use Rattle.numbers.specs.Lists.{values_of, last_byte}
use Rattle.columns.specs.Columns.{few_blocks}
use Rattle.blocks.specs.Blocks.{blocks_fill, rows_of, subtracted}
use Rattle.blocks.specs.Readers.{RowsRead}
use Rattle.bed.specs.declared.Bed.{Bed}
use Rattle.bed.specs.Columns as column
use Rattle.bed.specs.Records.{is_word_count, value_or, bed_sizes, bed_starts, bed_targets, bed_queries}
use Rattle.bed.specs.Read.{on_reading, bed_room}

-- ---- reading
-- working room for two lists of b numbers each: with the one block of a line without block columns
abbrev pub with_default : ℕ → Bed → List ℕ → List ℕ
with_default b r lists = cond (eqb r.words column.all) lists (set (set lists 0 (r.chromEnd - r.chromStart)) b 0)

-- it holds the lists of the block columns: sizes at its front, starts after the room for b numbers
pub record Listed (b : ℕ) (s : List ℕ) (r : Bed) (lists : List ℕ) : Type 0 where
  pub long : length lists ≡ 2 * b
  pub few : r.blockCount ≤ b
  pub one : (r.words ≡ column.all → ⊥) → r.blockCount ≡ 1
  pub sizes : r.words ≡ column.all → take r.blockCount lists ≡ values_of (bytes_of s (word_at s 0 column.block_sizes))
  pub starts : r.words ≡ column.all → take r.blockCount (drop b lists) ≡ values_of (bytes_of s (word_at s 0 column.block_starts))

-- a line of a good number of words, before its columns are read
pub record Counted (s : List ℕ) (n : ℕ) (lists : List ℕ) : Type 0 where
  pub long : length lists ≡ 2 * block_limit
  pub count : n ≡ word_count s 0
  pub good : is_word_count n ≡ true

-- the blocks of a record, in the working room
pub record Blocked (b : ℕ) (s : List ℕ) (r : Bed) (lists : List ℕ) : Type 0 where
  pub long : length lists ≡ 2 * b
  pub few : r.blockCount ≤ b
  pub sizes : take r.blockCount lists ≡ bed_sizes s r
  pub starts : take r.blockCount (drop b lists) ≡ bed_starts s r

-- a line of n good words that the quick way goes on with: a good number of words, and few blocks
abbrev pub is_few : ℕ → List ℕ → Bool
is_few n vs = is_word_count n && leb (value_or n vs column.block_count 1) few_blocks

-- what the quick way promises: what it finds is what the stages find, and the blocks of a line that was read are in its working
-- room
pub record QuickStaged (s : List ℕ) (answer : Result Bed Fault) (lists' : List ℕ) (x : Option (Result Bed Fault)) : Type 0 where
  pub staged : (found : Result Bed Fault) → x ≡ Some found → Staged Ok (Blocked few_blocks s) answer lists' found

-- a read line's blocks in the working room, and that they fill its span: before the rows are stored
pub record Stored (b : ℕ) (s : List ℕ) (r : Bed) (lists : List ℕ) : Type 0 where
  pub held : Blocked b s r lists
  pub fill : blocks_fill 0 (r.chromEnd - r.chromStart) (bed_starts s r) (bed_sizes s r) ≡ true
  pub span : r.chromStart < r.chromEnd
  pub high : r.chromEnd ≤ largest_position

-- what storing the rows of a reading promises
abbrev pub RowsStored : Result Bed Fault → List ℕ → List ℕ → List ℕ → List ℕ → List ℕ → List ℕ → List ℕ → Result Bed Fault → Type 0
RowsStored staged s ts ts' qs qs' zs zs' x =
    RowsRead on_reading (bed_room s (rows_of ts qs zs) staged) (bed_targets s) (bed_queries s) (bed_sizes s) ts ts' qs qs' zs zs' x

-- ---- the standard form
-- the words of a line that have more than one spelling: black is one digit, and the lists end with a comma
pub record Tidied (s : List ℕ) (r : Bed) : Type 0 where
  pub black : column.item_rgb < r.words → r.itemRgb ≡ 0 → length (bytes_of s (word_at s 0 column.item_rgb)) ≡ 1
  pub sizes : r.words ≡ column.all → last_byte 0 (bytes_of s (word_at s 0 column.block_sizes)) ≡ 44
  pub starts : r.words ≡ column.all → last_byte 0 (bytes_of s (word_at s 0 column.block_starts)) ≡ 44

-- ---- writing a record that passed the checks
pub record Writable (r : Bed) (chrom name ts zs : List ℕ) : Type 0 where
  pub words : r.words ≤ column.all
  pub chrom_short : length chrom ≤ name_limit
  pub name_short : length name ≤ name_limit
  pub few : r.blockCount ≤ block_limit
  pub targets : r.blockCount ≤ length ts
  pub sizes : r.blockCount ≤ length zs

-- the two lists of its blocks
pub record RowsThere (r : Bed) (ts zs lists : List ℕ) : Type 0 where
  pub long : length lists ≡ 2 * block_limit
  pub few : r.blockCount ≤ block_limit
  pub targets : r.blockCount ≤ length ts
  pub sizes : r.blockCount ≤ length zs

pub record ListsPut (r : Bed) (ts zs lists : List ℕ) : Type 0 where
  pub sizes : take r.blockCount (drop 0 lists) ≡ take r.blockCount zs
  pub starts : take r.blockCount (drop block_limit lists) ≡ subtracted r.chromStart (take r.blockCount ts)

-- its columns as the line writer takes them: two numbers a column, a name's length and where it stands in a text of names
unfoldable pub bed_values : Bed → ℕ → ℕ → List ℕ
bed_values r chrom name =
    chrom ∷ 0
    ∷ r.chromStart ∷ 0
    ∷ r.chromEnd ∷ 0
    ∷ name ∷ name_limit
    ∷ r.score ∷ 0
    ∷ strand_letter r.strand ∷ 0
    ∷ r.thickStart ∷ 0
    ∷ r.thickEnd ∷ 0
    ∷ r.itemRgb ∷ 0
    ∷ r.blockCount ∷ 0
    ∷ r.blockCount ∷ 0
    ∷ r.blockCount ∷ 0
    ∷ []
