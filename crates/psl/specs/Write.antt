-- Writing a PSL record: the writers' refusals in their order, and the standard text; and the record checker.
use Rattle.std.specs.Prelude.{ℕ, ◌≡◌, Bool, ◌&&◌, List, [], ◌∷◌, ◌++◌, length, take, Ok, Result, ⊤}
use Rattle.ledger.specs.declared.Reason.TheVariants.{NumberOutOfRange, BadWord, SpanDisagrees, BlockRules, CountsDisagree}
use Rattle.ledger.specs.Refusals.{require}
use Rattle.ledger.specs.Strands.{strand_letter, is_told}
use Rattle.text.specs.Checks.{refused}
use Rattle.text.specs.Pieces.{joined}
use Rattle.writing.specs.Digits.{digits, list_text}
use Rattle.writing.specs.Answers.{room_answer, left_after}
use Rattle.blocks.specs.Blocks.{count_fits, rows_of, row_numbers_fit}
use Rattle.psl.specs.declared.Psl.{Psl}
use Rattle.psl.specs.Rows.{rows_fit, counts_fit}
use Rattle.psl.specs.Tests.{fields_fit, spans_fit, psl_valid}
use Rattle.columns.specs.Names.{length_fits, all_graphic}
use Rattle.columns.specs.Lines.{then_write}
use Rattle.ledger.specs.declared.Refusal.{Refusal}

-- THE RECORD CHECKER: any breach is 9
unfoldable pub record_check : Psl → List ℕ → List ℕ → List ℕ → Result ⊤ Refusal
record_check r ts qs zs = require (psl_valid r ts qs zs) (refused BlockRules) (Ok tt)

-- the names that are handed in: their lengths, and that all their bytes show; and the strand
unfoldable pub words_show : Psl → List ℕ → List ℕ → Bool
words_show r qName tName = (length_fits (length qName) && (length_fits (length tName) && is_told r.strand)) && (all_graphic qName && all_graphic tName)

-- the refusals from the numbers on: the numbers, a row's too (5); spans (7); blocks (9); counts (10)
abbrev pub numbers_check : Psl → List ℕ → List ℕ → List ℕ → Result ⊤ Refusal
numbers_check r ts qs zs =
    require (fields_fit r && row_numbers_fit (take r.blockCount ts) (take r.blockCount qs) (take r.blockCount zs)) (refused NumberOutOfRange)
    (require (spans_fit r) (refused SpanDisagrees)
    (require (rows_fit r (take r.blockCount ts) (take r.blockCount qs) (take r.blockCount zs)) (refused BlockRules)
    (require (counts_fit r.counts (take r.blockCount ts) (take r.blockCount qs) (take r.blockCount zs)) (refused CountsDisagree)
    (Ok tt))))

-- all refusals: a bad row count (9); names and strand (6); then those from the numbers on
unfoldable pub write_check : Psl → List ℕ → List ℕ → List ℕ → List ℕ → List ℕ → Result ⊤ Refusal
write_check r qName tName ts qs zs =
    require (count_fits r.blockCount (rows_of ts qs zs)) (refused BlockRules)
    (require (words_show r qName tName) (refused BadWord)
    (numbers_check r ts qs zs))

-- the twenty-one words of a record: ts, qs and zs are the targets, queries and sizes of its rows
unfoldable pub psl_words : Psl → List ℕ → List ℕ → List ℕ → List ℕ → List ℕ → List (List ℕ)
psl_words r qName tName ts qs zs =
    digits r.counts.matches ∷ digits r.counts.misMatches ∷ digits r.counts.repMatches ∷ digits r.counts.nCount
    ∷ digits r.counts.qNumInsert ∷ digits r.counts.qBaseInsert ∷ digits r.counts.tNumInsert ∷ digits r.counts.tBaseInsert ∷ (strand_letter r.strand ∷ [])
    ∷ qName ∷ digits r.query.size ∷ digits r.query.start ∷ digits r.query.end ∷ tName ∷ digits r.target.size ∷ digits r.target.start ∷ digits r.target.end
    ∷ digits r.blockCount ∷ list_text (take r.blockCount zs) ∷ list_text (take r.blockCount qs) ∷ list_text (take r.blockCount ts) ∷ []

-- THE STANDARD TEXT: the words, a tab between them, and a line feed
unfoldable pub psl_text : Psl → List ℕ → List ℕ → List ℕ → List ℕ → List ℕ → List ℕ
psl_text r qName tName ts qs zs = joined 9 (psl_words r qName tName ts qs zs) ++ (10 ∷ [])

-- THE WRITER: the checks, then the text's length (1), then the room (11)
unfoldable pub psl_write : Psl → List ℕ → List ℕ → List ℕ → List ℕ → List ℕ → ℕ → Result ℕ Refusal
psl_write r qName tName ts qs zs room = then_write (write_check r qName tName ts qs zs) (room_answer (length (psl_text r qName tName ts qs zs)) room)

-- what the writer promises: the answer, and the buffer with the text at its front, or as it was
pub record PslWrote (r : Psl) (qName tName ts qs zs before after : List ℕ) (x : Result ℕ Refusal) : Type 0 where
  pub is : x ≡ psl_write r qName tName ts qs zs (length before)
  pub left : after ≡ left_after x (psl_text r qName tName ts qs zs) before
