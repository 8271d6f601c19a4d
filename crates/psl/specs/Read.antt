-- Reading a PSL line: the checks in the ledger's order.
use Rattle.std.specs.Prelude.{ℕ, ◌*◌, ◌≤◌, ◌≡◌, List, length, take, drop, Ok, Err, Result, ⊤}
use Rattle.ledger.specs.declared.Reason.TheVariants.{SpanDisagrees, BlockRules, CountsDisagree}
use Rattle.ledger.specs.Limits.{block_limit}
use Rattle.ledger.specs.Refusals.{refusal_at, require}
use Rattle.text.specs.Checks.{fault, then_check}
use Rattle.columns.specs.Columns.{values_from, place_of, then_next}
use Rattle.columns.specs.OneLine.{line_read}
use Rattle.blocks.specs.Blocks.{rows_of, span_fits}
use Rattle.blocks.specs.Readers.{then_room, RowsRead}
use Rattle.psl.specs.declared.Psl.{Psl}
use Rattle.psl.specs.Columns as column
use Rattle.psl.specs.Table.{psl_columns}
use Rattle.psl.specs.Records.{psl_record, psl_sizes, psl_queries, psl_targets}
use Rattle.psl.specs.Rows.{rows_fit, counts_fit}
use Rattle.ledger.specs.declared.Fault.{Fault}
use Rattle.ledger.specs.declared.Refusal.{Refusal}

-- the spans (7): the query's at qEnd, then the target's at tEnd
unfoldable pub span_check : Psl → List ℕ → Result ⊤ Fault
span_check r vs =
    require (span_fits r.query.start r.query.end r.query.size) (fault SpanDisagrees (place_of vs column.q_end))
    (require (span_fits r.target.start r.target.end r.target.size) (fault SpanDisagrees (place_of vs column.t_end)) (Ok tt))

-- the blocks (9), then the counts (10), both at the text's end
unfoldable pub row_check : List ℕ → Psl → Result ⊤ Fault
row_check s r =
    require (rows_fit r (psl_targets s) (psl_queries s) (psl_sizes s)) (fault BlockRules (length s))
    (require (counts_fit r.counts (psl_targets s) (psl_queries s) (psl_sizes s)) (fault CountsDisagree (length s)) (Ok tt))

-- after the line: the spans, the blocks, the counts
unfoldable pub after_line : List ℕ → List ℕ → Result Psl Fault
after_line s vs = then_check Err (span_check (psl_record vs) vs) (then_check Err (row_check s (psl_record vs)) (Ok (psl_record vs)))

-- all checks of a text: the line, then what comes after it
unfoldable pub psl_stages : List ℕ → Result Psl Fault
psl_stages s = then_next Err (line_read psl_columns s) (after_line s (values_from psl_columns 0 s 0))

-- what a caller is told
abbrev pub psl_answer : Result Psl Fault → Result Psl Refusal
psl_answer (Ok r) = Ok r
psl_answer (Err x) = Err (refusal_at x)

-- what follows from a record that was read, and what else; of a reading, and of an answer
abbrev pub on_reading : (X : Type 0) → Result Psl Fault → (Psl → X) → X → X
on_reading X (Ok r) some none = some r
on_reading X (Err x) some none = none

abbrev pub on_answer : (X : Type 0) → Result Psl Refusal → (Psl → X) → X → X
on_answer X (Ok r) some none = some r
on_answer X (Err x) some none = none

-- THE TEXT CHECKER: the reader without room
unfoldable pub psl_check : List ℕ → Result Psl Refusal
psl_check s = psl_answer (psl_stages s)

-- and the room for its blocks, last
abbrev pub room_stages : List ℕ → ℕ → Result Psl Fault
room_stages s room = then_room on_reading Err (λ (r : Psl). r.blockCount) s room (psl_stages s)

-- THE READER: room last
unfoldable pub psl_read : List ℕ → ℕ → Result Psl Refusal
psl_read s room = psl_answer (room_stages s room)

-- what the reader promises: the answer, and the three columns of rows
abbrev pub PslRead : List ℕ → List ℕ → List ℕ → List ℕ → List ℕ → List ℕ → List ℕ → Result Psl Refusal → Type 0
PslRead s ts ts' qs qs' zs zs' x = RowsRead on_answer (psl_read s (rows_of ts qs zs)) (λ (r : Psl). psl_targets s) (λ (r : Psl). psl_queries s) (λ (r : Psl). psl_sizes s) ts ts' qs qs' zs zs' x

-- the working room of a reader: sizes at its front, then query starts, then target starts, room for a record's blocks each
pub record Listed (s : List ℕ) (r : Psl) (lists : List ℕ) : Type 0 where
  pub long : length lists ≡ 3 * block_limit
  pub few : r.blockCount ≤ block_limit
  pub sizes : take r.blockCount lists ≡ psl_sizes s
  pub queries : take r.blockCount (drop block_limit lists) ≡ psl_queries s
  pub targets : take r.blockCount (drop (2 * block_limit) lists) ≡ psl_targets s

-- what the reader into working room promises: the text checker's answer, and the lists of an accepted line where the
-- room is that of three lists
pub record InRoom (s lists lists' : List ℕ) (x : Result Psl Refusal) : Type 0 where
  pub is : x ≡ psl_check s
  pub held : length lists ≡ 3 * block_limit → (r : Psl) → x ≡ Ok r → Listed s r lists'
