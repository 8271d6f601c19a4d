-- Reading a BED line: the checks in the ledger's order. Each stage names what is tested from there on; the last one, `bed_read`, is the reader.
use Rattle.std.specs.Prelude.{ℕ, ◌-◌, Bool, ◌&&◌, cond, List, length, take, leb, ltb, Ok, Err, Result, ⊤}
use Rattle.ledger.specs.declared.Reason.TheVariants.{SpanDisagrees, BlockRules}
use Rattle.ledger.specs.Refusals.{refusal_at, require}
use Rattle.ledger.specs.declared.Fault.{Fault}
use Rattle.ledger.specs.declared.Refusal.{Refusal}
use Rattle.text.specs.Checks.{fault, then_check, text_check, words_check, last_line_check}
use Rattle.text.specs.Words.{word_count}
use Rattle.columns.specs.Columns.{columns_from, values_from, place_of, then_next}
use Rattle.blocks.specs.Blocks.{blocks_fill, rows_of}
use Rattle.blocks.specs.Readers.{then_room, RowsRead}
use Rattle.bed.specs.declared.Bed.{Bed}
use Rattle.bed.specs.Columns as column
use Rattle.bed.specs.Table.{bed_columns}
use Rattle.bed.specs.Records.{is_word_count, bed_record, bed_sizes, bed_starts, bed_targets, bed_queries}

-- the number of words n (2): 3 to 9, or 12
abbrev pub bed_words_check : List ℕ → ℕ → Result ⊤ Fault
bed_words_check s n = words_check s 0 n column.all (is_word_count n)

-- chromStart ≤ thickStart ≤ thickEnd ≤ chromEnd
abbrev pub thick_fits : Bed → Bool
thick_fits r = leb r.chromStart r.thickStart && (leb r.thickStart r.thickEnd && leb r.thickEnd r.chromEnd)

abbrev pub thick_place : ℕ → List ℕ → ℕ
thick_place n vs = cond (ltb column.thick_end n) (place_of vs column.thick_end) (place_of vs column.thick_start)

-- the spans (7): chromStart < chromEnd, at chromEnd; then the thick span, at thickEnd, or with 7 words at thickStart
unfoldable pub span_check : Bed → List ℕ → Result ⊤ Fault
span_check r vs =
    require (ltb r.chromStart r.chromEnd) (fault SpanDisagrees (place_of vs column.chrom_end))
    (require (thick_fits r) (fault SpanDisagrees (thick_place r.words vs)) (Ok tt))

-- the blocks (9): first start 0, in order, last end the span's, at the text's end
unfoldable pub block_check : List ℕ → Bed → Result ⊤ Fault
block_check s r = require (blocks_fill 0 (r.chromEnd - r.chromStart) (bed_starts s r) (bed_sizes s r)) (fault BlockRules (length s)) (Ok tt)

-- after the spans: the blocks
unfoldable pub after_spans : List ℕ → Bed → Result Bed Fault
after_spans s r = then_check Err (block_check s r) (Ok r)

-- after the columns: a surplus line (2), then the spans
unfoldable pub after_columns : List ℕ → ℕ → List ℕ → Result Bed Fault
after_columns s n vs =
    then_check Err (last_line_check s 0)
    (then_check Err (span_check (bed_record n (length s) vs) vs)
    (after_spans s (bed_record n (length s) vs)))

-- after the number of words: the columns from the left (4, 5, 6, 8)
unfoldable pub after_words : List ℕ → ℕ → Result Bed Fault
after_words s n = then_next Err (columns_from (take n bed_columns) 0 s 0) (after_columns s n (values_from (take n bed_columns) 0 s 0))

-- after the text's length and bytes: the number of words
unfoldable pub after_text : List ℕ → Result Bed Fault
after_text s = then_check Err (bed_words_check s (word_count s 0)) (after_words s (word_count s 0))

-- all checks but the room: the text's length and bytes (1, 3), then the number of words
unfoldable pub bed_stages : List ℕ → Result Bed Fault
bed_stages s = then_check Err (text_check s) (after_text s)

-- what a caller is told
abbrev pub bed_answer : Result Bed Fault → Result Bed Refusal
bed_answer (Ok r) = Ok r
bed_answer (Err x) = Err (refusal_at x)

-- THE TEXT CHECKER, the reader without room
unfoldable pub bed_check : List ℕ → Result Bed Refusal
bed_check s = bed_answer (bed_stages s)

-- what follows from a record that was read, or accepted, and what else
abbrev pub on_reading : (X : Type 0) → Result Bed Fault → (Bed → X) → X → X
on_reading X (Ok r) read else = read r
on_reading X (Err x) read else = else

abbrev pub on_answer : (X : Type 0) → Result Bed Refusal → (Bed → X) → X → X
on_answer X (Ok r) accepted else = accepted r
on_answer X (Err x) accepted else = else

-- the room last (11)
abbrev pub bed_room : List ℕ → ℕ → Result Bed Fault → Result Bed Fault
bed_room s room x = then_room on_reading Err (λ (r : Bed). r.blockCount) s room x

-- THE READER
unfoldable pub bed_read : List ℕ → ℕ → Result Bed Refusal
bed_read s room = bed_answer (bed_room s room (bed_stages s))

-- what the reader promises: the answer, and the three lent slices with an accepted line's rows from their front, or as they were
abbrev pub BedRead : List ℕ → List ℕ → List ℕ → List ℕ → List ℕ → List ℕ → List ℕ → Result Bed Refusal → Type 0
BedRead s ts ts' qs qs' zs zs' r =
    RowsRead on_answer (bed_read s (rows_of ts qs zs)) (bed_targets s) (bed_queries s) (bed_sizes s) ts ts' qs qs' zs zs' r
