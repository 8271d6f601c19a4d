-- Writing a chain: the writers' refusals in their order, and the standard text.
use Rattle.std.specs.Prelude.{ℕ, zero, suc, ◌+◌, ◌-◌, ◌≡◌, Bool, ◌&&◌, List, [], ◌∷◌, ◌++◌, length, take, get_or, Ok, Result, ⊤}
use Rattle.ledger.specs.declared.Reason.TheVariants.{NumberOutOfRange, BadWord, SpanDisagrees, BlockRules}
use Rattle.ledger.specs.Refusals.{require}
use Rattle.ledger.specs.Strands.{strand_letter, is_told}
use Rattle.text.specs.Checks.{refused}
use Rattle.text.specs.Pieces.{joined}
use Rattle.writing.specs.Digits.{digits}
use Rattle.writing.specs.Answers.{room_answer, left_after}
use Rattle.kinds.specs.declared.Fixed.TheVariants as fixed
use Rattle.kinds.specs.Kinds.{fixed_text}
use Rattle.blocks.specs.Blocks.{count_fits, rows_of, row_numbers_fit}
use Rattle.columns.specs.Lines.{then_write}
use Rattle.chain.specs.declared.Chain.{Chain}
use Rattle.chain.specs.Tests.{names_fit, fields_fit, spans_fit, rows_fit, chain_valid}
use Rattle.columns.specs.Names.{all_graphic}
use Rattle.ledger.specs.declared.Refusal.{Refusal}

-- the names that are handed in: their lengths, and that all their bytes show
unfoldable pub names_show : List ℕ → List ℕ → Bool
names_show tName qName = names_fit (length tName) (length qName) && (all_graphic tName && all_graphic qName)

-- the refusals, without a text: a bad row count (9); names and strand (6); the numbers, a row's too (5); spans (7); blocks (9)
unfoldable pub write_check : Chain → List ℕ → List ℕ → List ℕ → List ℕ → List ℕ → Result ⊤ Refusal
write_check r tName qName ts qs zs =
    require (count_fits r.blockCount (rows_of ts qs zs)) (refused BlockRules)
    (require (names_show tName qName && is_told r.qStrand) (refused BadWord)
    (require (fields_fit r && row_numbers_fit (take r.blockCount ts) (take r.blockCount qs) (take r.blockCount zs)) (refused NumberOutOfRange)
    (require (spans_fit r) (refused SpanDisagrees)
    (require (rows_fit r (take r.blockCount ts) (take r.blockCount qs) (take r.blockCount zs)) (refused BlockRules)
    (Ok tt)))))

-- the thirteen words of a header
unfoldable pub head_words : Chain → List ℕ → List ℕ → List (List ℕ)
head_words r tName qName =
    fixed_text fixed.Chain ∷ digits r.score ∷ tName ∷ digits r.tSize ∷ fixed_text fixed.Plus ∷ digits r.tStart ∷ digits r.tEnd
    ∷ qName ∷ digits r.qSize ∷ (strand_letter r.qStrand ∷ []) ∷ digits r.qStart ∷ digits r.qEnd ∷ digits r.id ∷ []

-- a line of words: one space between them, and a line feed
abbrev pub fed_words : List (List ℕ) → List ℕ
fed_words ws = joined 32 ws ++ (10 ∷ [])

-- from the end of a block that starts at a with size z to the next one's start
abbrev pub gap_to : ℕ → ℕ → ℕ → ℕ
gap_to a z next = next - (a + z)

-- the words of the line of row i, before another: its size, and the gaps to the next row on the target and on the query
unfoldable pub gap_words : ℕ → List ℕ → List ℕ → List ℕ → List (List ℕ)
gap_words i ts qs zs =
    digits (get_or zs i 0) ∷ digits (gap_to (get_or ts i 0) (get_or zs i 0) (get_or ts (suc i) 0)) ∷ digits (gap_to (get_or qs i 0) (get_or zs i 0) (get_or qs (suc i) 0)) ∷ []

-- the lines of row i and of the k rows after it: the last one has its size alone
unfoldable pub block_text : ℕ → ℕ → List ℕ → List ℕ → List ℕ → List ℕ
block_text zero i ts qs zs = fed_words (digits (get_or zs i 0) ∷ [])
block_text (suc k) i ts qs zs = fed_words (gap_words i ts qs zs) ++ block_text k (suc i) ts qs zs

-- THE STANDARD TEXT: the header's line, then the block lines of the first blockCount rows
unfoldable pub chain_text : Chain → List ℕ → List ℕ → List ℕ → List ℕ → List ℕ → List ℕ
chain_text r tName qName ts qs zs = fed_words (head_words r tName qName) ++ block_text (r.blockCount - 1) 0 ts qs zs

-- THE WRITER: the checks, then the text's length (1), then the room (11)
unfoldable pub chain_write : Chain → List ℕ → List ℕ → List ℕ → List ℕ → List ℕ → ℕ → Result ℕ Refusal
chain_write r tName qName ts qs zs room = then_write (write_check r tName qName ts qs zs) (room_answer (length (chain_text r tName qName ts qs zs)) room)

-- what the writer promises: the answer, and the buffer with the text at its front, or as it was
pub record ChainWrote (r : Chain) (tName qName ts qs zs before after : List ℕ) (x : Result ℕ Refusal) : Type 0 where
  pub is : x ≡ chain_write r tName qName ts qs zs (length before)
  pub left : after ≡ left_after x (chain_text r tName qName ts qs zs) before

-- THE RECORD CHECKER: any breach is 9
unfoldable pub record_check : Chain → List ℕ → List ℕ → List ℕ → Result ⊤ Refusal
record_check r ts qs zs = require (chain_valid r ts qs zs) (refused BlockRules) (Ok tt)
