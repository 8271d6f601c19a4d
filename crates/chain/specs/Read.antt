-- Reading a chain: the checks in the ledger's order. Each stage names what is tested from there on; the last one, `chain_read`, is the reader.
use Rattle.std.specs.Prelude.{ℕ, zero, suc, ◌+◌, ◌-◌, ◌*◌, ◌≤◌, ◌≡◌, Bool, ◌&&◌, ◌||◌, cond, List, length, take, drop, ltb, eqb, Ok, Err, Result, ⊤}
use Rattle.ledger.specs.declared.Reason.TheVariants.{WrongCount, SpanDisagrees, BlockRules, NoRoom}
use Rattle.ledger.specs.Limits.{block_limit}
use Rattle.ledger.specs.Refusals.{fault_at, refusal_at, require}
use Rattle.text.specs.Checks.{fault, then_check, text_check, last_line_check, words_check}
use Rattle.text.specs.Words.{next_line, word_count}
use Rattle.columns.specs.Columns.{columns_from, values_from, value_of, place_of, then_next}
use Rattle.columns.specs.OneLine.{count_check}
use Rattle.blocks.specs.Blocks.{rows_of, span_fits}
use Rattle.blocks.specs.Readers.{then_room, RowsRead}
use Rattle.chain.specs.declared.Chain.{Chain}
use Rattle.chain.specs.declared.BlockLine.{BlockLine}
use Rattle.chain.specs.declared.BlockLine.TheVariants.{Last, Gap}
use Rattle.chain.specs.declared.Ending.{Ending}
use Rattle.chain.specs.Columns as column
use Rattle.chain.specs.Table.{chain_columns, block_columns}
use Rattle.chain.specs.Records.{chain_record, chain_targets, chain_queries, chain_sizes}
use Rattle.ledger.specs.declared.Fault.{Fault}
use Rattle.ledger.specs.declared.Refusal.{Refusal}

-- the spans (7): the target's at its end's word, then the query's at its end's word
unfoldable pub span_check : Chain → List ℕ → Result ⊤ Fault
span_check r vs =
    require (span_fits r.tStart r.tEnd r.tSize) (fault SpanDisagrees (place_of vs column.t_end))
    (require (span_fits r.qStart r.qEnd r.qSize) (fault SpanDisagrees (place_of vs column.q_end)) (Ok tt))

-- a block line has 1 or 3 words
abbrev pub is_block_count : ℕ → Bool
is_block_count n = eqb n column.last_count || eqb n column.gap_count

-- a block line's words: more than 3 at the fourth, any other wrong number at the line's end (2)
unfoldable pub block_words : List ℕ → ℕ → ℕ → Result ⊤ Fault
block_words s line n = words_check s line n column.gap_count (is_block_count n)

-- where k blocks may still come, a line past the last allowed one is refused at its first byte (11)
unfoldable pub limit_check : ℕ → ℕ → Result ⊤ Fault
limit_check line zero = fault NoRoom line
limit_check line (suc k) = Ok tt

-- the block that the values vs of a line of n words say: a size alone is the last
abbrev pub block_is : ℕ → List ℕ → Result BlockLine Fault
block_is n vs = cond (eqb n column.last_count) (Ok (Last (value_of vs column.size))) (Ok (Gap (value_of vs column.size) (value_of vs column.dt) (value_of vs column.dq)))

-- after the number of words of a block line: its columns (4, 5)
unfoldable pub block_numbers : List ℕ → ℕ → ℕ → Result BlockLine Fault
block_numbers s line n = then_next Err (columns_from (take n block_columns) 0 s line) (block_is n (values_from (take n block_columns) 0 s line))

-- the block line at a place
unfoldable pub block_line : List ℕ → ℕ → Result BlockLine Fault
block_line s line = then_check Err (block_words s line (word_count s line)) (block_numbers s line (word_count s line))

abbrev pub then_block : Result BlockLine Fault → (ℕ → Result Ending Fault) → (ℕ → ℕ → ℕ → Result Ending Fault) → Result Ending Fault
then_block (Ok (Last z)) last more = last z
then_block (Ok (Gap z dt dq)) last more = more z dt dq
then_block (Err x) last more = Err x

-- where no line begins the text ends too early (2)
abbrev pub ends_early : List ℕ → Result Ending Fault
ends_early s = Err (fault_at WrongCount (length s))

abbrev pub if_line : List ℕ → ℕ → Result Ending Fault → Result Ending Fault
if_line s line rest = cond (ltb line (length s)) rest (ends_early s)

-- the last line's place, the number of blocks, and where the last block ends on the target and on the query
abbrev pub ending_at : ℕ → ℕ → ℕ → ℕ → Ending
ending_at line n t q = record { line = line; count = n; target = t; query = q }

-- the block lines from the one at a place on, whose block starts at t and q, where k blocks may still come: with none to come the limit refuses the line
-- before its words are counted (11)
unfoldable pub lines_from : ℕ → List ℕ → ℕ → ℕ → ℕ → Result Ending Fault
lines_from zero s line t q = if_line s line (then_check Err (limit_check line zero) (ends_early s))
lines_from (suc k) s line t q =
    if_line s line
    (then_block (block_line s line)
    (λ z. Ok (ending_at line (block_limit - k) (t + z) (q + z)))
    (λ z dt dq. lines_from k s (next_line s line) (t + z + dt) (q + z + dq)))

-- the blocks (9): the last one ends where the spans end, at the text's end
unfoldable pub fill_check : List ℕ → Chain → Ending → Result ⊤ Fault
fill_check s r e = require (eqb e.target r.tEnd && eqb e.query r.qEnd) (fault BlockRules (length s)) (Ok tt)

-- after the last line: the blocks
unfoldable pub after_last : List ℕ → List ℕ → Ending → Result Chain Fault
after_last s vs e = then_check Err (fill_check s (chain_record vs e.count) e) (Ok (chain_record vs e.count))

abbrev pub then_lines : Result Ending Fault → (Ending → Result Chain Fault) → Result Chain Fault
then_lines (Ok e) rest = rest e
then_lines (Err x) rest = Err x

-- after the block lines: a surplus line (2)
unfoldable pub after_lines : List ℕ → List ℕ → Ending → Result Chain Fault
after_lines s vs e = then_check Err (last_line_check s e.line) (after_last s vs e)

-- after the spans: the block lines from the top (2, 11, 4, 5)
unfoldable pub after_spans : List ℕ → List ℕ → Result Chain Fault
after_spans s vs = then_lines (lines_from block_limit s (next_line s 0) (value_of vs column.t_start) (value_of vs column.q_start)) (λ e. after_lines s vs e)

-- after the header's columns: the spans
unfoldable pub after_columns : List ℕ → List ℕ → Result Chain Fault
after_columns s vs = then_check Err (span_check (chain_record vs 0) vs) (after_spans s vs)

-- after the header's number of words: its columns from the left (4, 5, 6)
unfoldable pub after_words : List ℕ → Result Chain Fault
after_words s = then_next Err (columns_from chain_columns 0 s 0) (after_columns s (values_from chain_columns 0 s 0))

-- after the text's length and bytes: the header's 13 words (2)
unfoldable pub after_text : List ℕ → Result Chain Fault
after_text s = then_check Err (count_check s 0 column.header_count) (after_words s)

-- all stages of a text
unfoldable pub chain_stages : List ℕ → Result Chain Fault
chain_stages s = then_check Err (text_check s) (after_text s)

-- what a caller is told of it
abbrev pub chain_answer : Result Chain Fault → Result Chain Refusal
chain_answer (Ok r) = Ok r
chain_answer (Err x) = Err (refusal_at x)

-- THE TEXT CHECKER: the reader without room
unfoldable pub chain_check : List ℕ → Result Chain Refusal
chain_check s = chain_answer (chain_stages s)

-- what follows from a record that is read or accepted, and what else
abbrev pub on_reading : (X : Type 0) → Result Chain Fault → (Chain → X) → X → X
on_reading X (Ok r) f other = f r
on_reading X (Err x) f other = other

abbrev pub on_answer : (X : Type 0) → Result Chain Refusal → (Chain → X) → X → X
on_answer X (Ok r) f other = f r
on_answer X (Err x) f other = other

-- all stages and then the room (11)
unfoldable pub chain_roomed : List ℕ → ℕ → Result Chain Fault
chain_roomed s room = then_room on_reading Err (λ r. r.blockCount) s room (chain_stages s)

-- THE READER: room last
unfoldable pub chain_read : List ℕ → ℕ → Result Chain Refusal
chain_read s room = chain_answer (chain_roomed s room)

-- what the reader promises: the answer, and the three columns of rows, whose numbers are those of an accepted chain
abbrev pub ChainRead : List ℕ → List ℕ → List ℕ → List ℕ → List ℕ → List ℕ → List ℕ → Result Chain Refusal → Type 0
ChainRead s ts ts' qs qs' zs zs' r = RowsRead on_answer (chain_read s (rows_of ts qs zs)) (chain_targets s) (chain_queries s) (chain_sizes s) ts ts' qs qs' zs zs' r

-- the rows of a record, in working room for any record's blocks: targets at its front, queries and sizes each after the room for a record's blocks
pub record Held (s : List ℕ) (r : Chain) (rows : List ℕ) : Type 0 where
  pub long : length rows ≡ 3 * block_limit
  pub few : r.blockCount ≤ block_limit
  pub targets : take r.blockCount rows ≡ chain_targets s r
  pub queries : take r.blockCount (drop block_limit rows) ≡ chain_queries s r
  pub sizes : take r.blockCount (drop (2 * block_limit) rows) ≡ chain_sizes s r

-- what the reader into working room promises: the text checker's answer, and the rows of an accepted chain where the
-- room is that of three lists
pub record InRoom (s rows rows' : List ℕ) (r : Result Chain Refusal) : Type 0 where
  pub is : r ≡ chain_check s
  pub held : length rows ≡ 3 * block_limit → (b : Chain) → r ≡ Ok b → Held s b rows'
