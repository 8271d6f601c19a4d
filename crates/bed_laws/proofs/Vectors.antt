-- Two worked BED records, of twelve words with two blocks and of three words: each may be written, its text is the line, and the line reads back. Assumes nothing.
use mathlib.Core.Path.{◌≡◌, refl}
use mathlib.Core.List.{List, [], ◌∷◌}
use Prim.Native.Nat.{ℕ, ◌≤◌}
use native.Mathlib.Omega.{arith}
use lib.ListN.{length}
use Rattle.std.specs.Prelude.{Ok}
use Rattle.ledger.specs.declared.Strand.TheVariants.{Plus, Dot}
use Rattle.ledger.specs.Limits.{text_limit}
use Rattle.ledger.specs.Parts.{part_at}
use Rattle.text.specs.Scan.{run, end_of}
use Rattle.text.specs.Parts.{part_bytes}
use Rattle.text.specs.Pieces.{pieces_of, non_empty, words_of, line_of, joined, Plain}
use Rattle.text.specs.Words.{next_word, word_at, bytes_of}
use Rattle.numbers.specs.Lists.{last_byte}
use Rattle.writing.specs.Digits.{digits_in, digits, list_text}
use Rattle.kinds.specs.Words.{colour_text}
use Rattle.blocks.specs.Blocks.{order_from, blocks_fill, are_sums, all_between, subtracted, row_numbers_fit}
use Rattle.bed.specs.declared.Bed.{Bed}
use Rattle.bed.specs.Columns as column
use Rattle.bed.specs.Records.{bed_targets}
use Rattle.bed.specs.Read.{bed_read}
use Rattle.bed.specs.Rules.{placed}
use Rattle.bed.specs.Tests.{names_fit, strand_fits, fields_fit, spans_fit, rows_fit}
use Rattle.bed.specs.Write.{names_show, write_check, bed_words, bed_text}
use Rattle.bed_laws.proofs.BackLaws.{back_read, back_chrom, back_targets}

-- the first line of the UCSC page's example
abbrev clone : Bed
clone = record {
  words = column.all;
  chrom = part_at 0 5;
  chromStart = 1000;
  chromEnd = 5000;
  name = part_at 5 6;
  score = 960;
  strand = Plus;
  thickStart = 1000;
  thickEnd = 5000;
  itemRgb = 0;
  blockCount = 2;
}

-- chr22, cloneA
abbrev chr22 : List ℕ
chr22 = 99 ∷ 104 ∷ 114 ∷ 50 ∷ 50 ∷ []

abbrev clone_a : List ℕ
clone_a = 99 ∷ 108 ∷ 111 ∷ 110 ∷ 101 ∷ 65 ∷ []

-- two blocks: from 1000 of size 567, and from 4512 of size 488
abbrev targets : List ℕ
targets = 1000 ∷ 4512 ∷ []

abbrev queries : List ℕ
queries = 0 ∷ 567 ∷ []

abbrev sizes_lem : List ℕ
sizes_lem = 567 ∷ 488 ∷ []

-- chr22 1000 5000 cloneA 960 + 1000 5000 0 2 567,488, 0,3512, with tabs between and a line feed
abbrev line : List ℕ
line =
    99 ∷ 104 ∷ 114 ∷ 50 ∷ 50 ∷ 9
    ∷ 49 ∷ 48 ∷ 48 ∷ 48 ∷ 9
    ∷ 53 ∷ 48 ∷ 48 ∷ 48 ∷ 9
    ∷ 99 ∷ 108 ∷ 111 ∷ 110 ∷ 101 ∷ 65 ∷ 9
    ∷ 57 ∷ 54 ∷ 48 ∷ 9
    ∷ 43 ∷ 9
    ∷ 49 ∷ 48 ∷ 48 ∷ 48 ∷ 9
    ∷ 53 ∷ 48 ∷ 48 ∷ 48 ∷ 9
    ∷ 48 ∷ 9
    ∷ 50 ∷ 9
    ∷ 53 ∷ 54 ∷ 55 ∷ 44 ∷ 52 ∷ 56 ∷ 56 ∷ 44 ∷ 9
    ∷ 48 ∷ 44 ∷ 51 ∷ 53 ∷ 49 ∷ 50 ∷ 44 ∷ 10 ∷ []

-- it may be written
pub clone_written : write_check clone chr22 clone_a targets queries sizes_lem ≡ Ok tt
unfolding write_check names_show names_fit strand_fits fields_fit row_numbers_fit spans_fit rows_fit end_of run order_from blocks_fill are_sums all_between
clone_written = refl

-- as this line
pub clone_text : bed_text clone chr22 clone_a targets sizes_lem ≡ line
unfolding bed_text bed_words joined digits_in digits list_text colour_text subtracted
clone_text = refl

clone_short : length (bed_text clone chr22 clone_a targets sizes_lem) ≤ text_limit
clone_short = rw clone_text (omega arith)

-- which reads back
pub clone_back : bed_read line 2 ≡ Ok (placed line clone)
clone_back = rw clone_text at (back_read clone chr22 clone_a targets queries sizes_lem clone_written clone_short 2 (omega arith))

pub clone_chrom : part_bytes line (placed line clone).chrom ≡ chr22
clone_chrom = rw clone_text at (back_chrom clone chr22 clone_a targets queries sizes_lem clone_written clone_short)

pub clone_targets : bed_targets line (placed line clone) ≡ targets
clone_targets = rw clone_text at (back_targets clone chr22 clone_a targets queries sizes_lem clone_written clone_short)

-- the line is in standard form, so copying it is writing it
pub clone_plain : Plain line
unfolding joined words_of line_of pieces_of non_empty run
clone_plain = record { is = refl }

pub clone_tidy : (length (bytes_of line (word_at line 0 column.item_rgb)) ≡ 1) × (last_byte 0 (bytes_of line (word_at line 0 column.block_sizes)) ≡ 44) × (last_byte 0 (bytes_of line (word_at line 0 column.block_starts)) ≡ 44)
unfolding word_at next_word bytes_of last_byte end_of run
clone_tidy = (refl, refl, refl)

-- a record of three words: its one block is the span, and its name is empty
abbrev bare : Bed
bare = record {
  words = 3;
  chrom = part_at 0 5;
  chromStart = 1000;
  chromEnd = 5000;
  name = part_at 0 0;
  score = 0;
  strand = Dot;
  thickStart = 1000;
  thickEnd = 5000;
  itemRgb = 0;
  blockCount = 1;
}

-- chr22 1000 5000
abbrev short : List ℕ
short = 99 ∷ 104 ∷ 114 ∷ 50 ∷ 50 ∷ 9 ∷ 49 ∷ 48 ∷ 48 ∷ 48 ∷ 9 ∷ 53 ∷ 48 ∷ 48 ∷ 48 ∷ 10 ∷ []

pub bare_written : write_check bare chr22 [] (1000 ∷ []) (0 ∷ []) (4000 ∷ []) ≡ Ok tt
unfolding write_check names_show names_fit strand_fits fields_fit row_numbers_fit spans_fit rows_fit end_of run order_from blocks_fill are_sums all_between
bare_written = refl

pub bare_text : bed_text bare chr22 [] (1000 ∷ []) (4000 ∷ []) ≡ short
unfolding bed_text bed_words joined digits_in digits list_text colour_text subtracted
bare_text = refl

bare_short : length (bed_text bare chr22 [] (1000 ∷ []) (4000 ∷ [])) ≤ text_limit
bare_short = rw bare_text (omega arith)

pub bare_back : bed_read short 1 ≡ Ok (placed short bare)
bare_back = rw bare_text at (back_read bare chr22 [] (1000 ∷ []) (0 ∷ []) (4000 ∷ []) bare_written bare_short 1 (omega arith))
