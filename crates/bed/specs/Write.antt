-- Writing a BED record: the writers' refusals in their order, and the standard text.
use Rattle.std.specs.Prelude.{ℕ, ◌≡◌, Bool, ◌&&◌, List, [], ◌∷◌, ◌++◌, length, take, Ok, Result, ⊤}
use Rattle.ledger.specs.declared.Reason.TheVariants.{NumberOutOfRange, BadWord, SpanDisagrees, BlockRules}
use Rattle.ledger.specs.Refusals.{require}
use Rattle.ledger.specs.Strands.{strand_letter}
use Rattle.ledger.specs.declared.Refusal.{Refusal}
use Rattle.text.specs.Checks.{refused}
use Rattle.text.specs.Pieces.{joined}
use Rattle.writing.specs.Digits.{digits, list_text}
use Rattle.writing.specs.Answers.{room_answer, left_after}
use Rattle.kinds.specs.Words.{colour_text}
use Rattle.columns.specs.Names.{all_graphic}
use Rattle.columns.specs.Lines.{then_write}
use Rattle.blocks.specs.Blocks.{count_fits, rows_of, subtracted, row_numbers_fit}
use Rattle.bed.specs.declared.Bed.{Bed}
use Rattle.bed.specs.Tests.{names_fit, strand_fits, fields_fit, spans_fit, rows_fit, bed_valid}

-- the names that are handed in: their lengths, and that all their bytes show
unfoldable pub names_show : Bed → List ℕ → List ℕ → Bool
names_show r chrom name = names_fit r.words (length chrom) (length name) && (all_graphic chrom && all_graphic name)

-- the refusals, without a text: a bad row count (9); names and strand (6); the word count and numbers, a row's too (5); spans (7); blocks (9)
unfoldable pub write_check : Bed → List ℕ → List ℕ → List ℕ → List ℕ → List ℕ → Result ⊤ Refusal
write_check r chrom name ts qs zs =
    require (count_fits r.blockCount (rows_of ts qs zs)) (refused BlockRules)
    (require (names_show r chrom name && strand_fits r) (refused BadWord)
    (require (fields_fit r && row_numbers_fit (take r.blockCount ts) (take r.blockCount qs) (take r.blockCount zs)) (refused NumberOutOfRange)
    (require (spans_fit r) (refused SpanDisagrees)
    (require (rows_fit r (take r.blockCount ts) (take r.blockCount qs) (take r.blockCount zs)) (refused BlockRules)
    (Ok tt)))))

-- the twelve words of a record: ts and zs are the targets and sizes of its rows
unfoldable pub bed_words : Bed → List ℕ → List ℕ → List ℕ → List ℕ → List (List ℕ)
bed_words r chrom name ts zs =
    chrom
    ∷ digits r.chromStart
    ∷ digits r.chromEnd
    ∷ name
    ∷ digits r.score
    ∷ (strand_letter r.strand ∷ [])
    ∷ digits r.thickStart
    ∷ digits r.thickEnd
    ∷ colour_text r.itemRgb
    ∷ digits r.blockCount
    ∷ list_text (take r.blockCount zs)
    ∷ list_text (subtracted r.chromStart (take r.blockCount ts))
    ∷ []

-- THE STANDARD TEXT: the words up to the word count, a tab between them, and a line feed
unfoldable pub bed_text : Bed → List ℕ → List ℕ → List ℕ → List ℕ → List ℕ
bed_text r chrom name ts zs = joined 9 (take r.words (bed_words r chrom name ts zs)) ++ (10 ∷ [])

-- THE WRITER: the checks, then the text's length (1), then the room (11)
unfoldable pub bed_write : Bed → List ℕ → List ℕ → List ℕ → List ℕ → List ℕ → ℕ → Result ℕ Refusal
bed_write r chrom name ts qs zs room = then_write (write_check r chrom name ts qs zs) (room_answer (length (bed_text r chrom name ts zs)) room)

-- what the writer promises: the answer, and the buffer with the text at its front, or as it was
pub record BedWrote (r : Bed) (chrom name ts qs zs before after : List ℕ) (x : Result ℕ Refusal) : Type 0 where
  pub is : x ≡ bed_write r chrom name ts qs zs (length before)
  pub left : after ≡ left_after x (bed_text r chrom name ts zs) before

-- THE RECORD CHECKER: any breach is 9
unfoldable pub record_check : Bed → List ℕ → List ℕ → List ℕ → Result ⊤ Refusal
record_check r ts qs zs = require (bed_valid r ts qs zs) (refused BlockRules) (Ok tt)
