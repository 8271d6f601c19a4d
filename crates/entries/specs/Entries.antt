-- The entries of docs/DESK.md, each as a definition: what it answers and writes, for every input.
use Rattle.std.specs.Prelude.{ℕ, suc, ◌-◌, ◌*◌, ◌/◌, ◌%◌, ◌≤◌, ◌≡◌, cond, List, [], ◌∷◌, ◌++◌, leb, eqb, length, drop, ℤ, pos, negsuc, Ok, Err, Result, ⊤}
use Rattle.ledger.specs.Refusals.{without_text}
use Rattle.ledger.specs.declared.Part.{Part}
use Rattle.ledger.specs.declared.Reason.TheVariants.{BadWord, NoRoom, NoPair}
use Rattle.ledger.specs.declared.Refusal.{Refusal}
use Rattle.ledger.specs.declared.Row.{Row}
use Rattle.ledger.specs.Limits.{block_limit, largest_number}
use Rattle.ledger.specs.Reasons.{reason_number}
use Rattle.blocks.specs.Rows.{targets_of, queries_of, sizes_of}
use Rattle.text.specs.Parts.{part_in, part_bytes}
use Rattle.text.specs.Pieces.{line_of}
use Rattle.writing.specs.Answers.{room_answer}
use Rattle.bed.specs.declared.Bed.{Bed}
use Rattle.bed.specs.Records.{bed_targets, bed_queries, bed_sizes, bed_rows}
use Rattle.bed.specs.Read.{bed_check}
use Rattle.bed.specs.Write.{bed_write, bed_text}
use Rattle.psl.specs.declared.Psl.{Psl}
use Rattle.psl.specs.Records.{psl_targets, psl_queries, psl_sizes, psl_rows}
use Rattle.psl.specs.Read.{psl_check}
use Rattle.psl.specs.Write.{psl_write, psl_text}
use Rattle.chain.specs.declared.Chain.{Chain}
use Rattle.chain.specs.Records.{chain_targets, chain_queries, chain_sizes, chain_rows}
use Rattle.chain.specs.Read.{chain_check}
use Rattle.chain.specs.Write.{chain_write, chain_text}
use Rattle.number_line.specs.Numbers.{numbers_in, numbers_check}
use Rattle.lift.specs.declared.Span.{Span}
use Rattle.lift.specs.Conversion.{converted}
use Rattle.lift.specs.Positions.{lift_position}
use Rattle.region.specs.declared.Region.{Region}
use Rattle.region.specs.declared.Tally.{Tally}
use Rattle.region.specs.declared.Tallied.{Tallied}
use Rattle.region.specs.Regions.{lift_region}
use Rattle.region.specs.Tallies.{tally_step, sent_through}
use Rattle.region.specs.Batches.{answer_rows, region_size, rows_bytes, sent_text, text_batch_check}
use Rattle.turn.specs.Turns as turns
use Rattle.binary.specs.Bytes.{word_size, words_bytes, low_at}
use Rattle.answers.specs.Answers.{refusal_code, Outcome, Answered, gives, refuses, refuses_by, numbered, recorded, no_room_at}
use Rattle.entries.specs.Records.{bed_numbers, psl_numbers, chain_numbers}

-- by the kind of text: 1 BED, 2 PSL, 3 chain; any other is 6 at place 0
unfoldable pub by_kind : ℕ → Outcome → Outcome → Outcome → Outcome
by_kind kind bed psl chain = cond (eqb kind 1) bed (cond (eqb kind 2) psl (cond (eqb kind 3) chain (refuses_by BadWord)))

-- an accepted text goes on with its record, any other is refused as its checker says
abbrev pub of_bed : Result Bed Refusal → (Bed → Outcome) → Outcome
of_bed (Ok r) rest = rest r
of_bed (Err x) rest = refuses x

abbrev pub of_psl : Result Psl Refusal → (Psl → Outcome) → Outcome
of_psl (Ok r) rest = rest r
of_psl (Err x) rest = refuses x

abbrev pub of_chain : Result Chain Refusal → (Chain → Outcome) → Outcome
of_chain (Ok r) rest = rest r
of_chain (Err x) rest = refuses x

-- CHECK: the number of blocks, and no byte is written
unfoldable pub checked_bed : List ℕ → Outcome
checked_bed s = of_bed (bed_check s) (λ r. gives r.blockCount [])

unfoldable pub checked_psl : List ℕ → Outcome
checked_psl s = of_psl (psl_check s) (λ r. gives r.blockCount [])

unfoldable pub checked_chain : List ℕ → Outcome
checked_chain s = of_chain (chain_check s) (λ r. gives r.blockCount [])

unfoldable pub checked : ℕ → List ℕ → Outcome
checked kind s = by_kind kind (checked_bed s) (checked_psl s) (checked_chain s)

-- PARSE
unfoldable pub parsed_bed : List ℕ → ℕ → Outcome
parsed_bed s room = of_bed (bed_check s) (λ r. recorded (no_room_at (length s)) room (bed_numbers r) (bed_rows s r))

unfoldable pub parsed_psl : List ℕ → ℕ → Outcome
parsed_psl s room = of_psl (psl_check s) (λ r. recorded (no_room_at (length s)) room (psl_numbers r) (psl_rows s))

unfoldable pub parsed_chain : List ℕ → ℕ → Outcome
parsed_chain s room = of_chain (chain_check s) (λ r. recorded (no_room_at (length s)) room (chain_numbers r) (chain_rows s r))

unfoldable pub parsed : ℕ → List ℕ → ℕ → Outcome
parsed kind s room = by_kind kind (parsed_bed s room) (parsed_psl s room) (parsed_chain s room)

-- NUMBERS: those of a text of one line
abbrev pub of_numbers : Result ℕ Refusal → Outcome → Outcome
of_numbers (Ok n) rest = rest
of_numbers (Err x) rest = refuses x

unfoldable pub numbers_given : List ℕ → ℕ → Outcome
numbers_given s room = of_numbers (numbers_check s) (numbered (no_room_at (length s)) room (numbers_in s))

-- CONVERT: a call without a text, so that every refusal is at place 0
abbrev pub of_span : Result Span Refusal → (Span → Outcome) → Outcome
of_span (Ok x) rest = rest x
of_span (Err x) rest = refuses x

unfoldable pub converted_numbers : ℕ → ℕ → ℕ → ℕ → Outcome
converted_numbers start end size room = of_span (converted start end size) (λ x. numbered (without_text NoRoom) room (x.start ∷ x.end ∷ []))

-- FORMAT: a writer's answer and its text; its want of room (11) stands at the text's end, its other refusals at place 0
abbrev pub at_end : ℕ → Refusal → Refusal
at_end end x = cond (eqb (reason_number x.reason) (reason_number NoRoom)) (no_room_at end) x

abbrev pub written : ℕ → Result ℕ Refusal → List ℕ → Outcome
written end (Ok n) bytes = gives n bytes
written end (Err x) bytes = refuses (at_end end x)

-- a text's line as it stands, and a feed
unfoldable pub copied : List ℕ → ℕ → Outcome
copied s room = written (length s) (room_answer (length (line_of s ++ (10 ∷ []))) room) (line_of s ++ (10 ∷ []))

-- a name's bytes
abbrev pub name_bytes : List ℕ → Part → List ℕ
name_bytes s p = part_bytes s (part_in s p)

-- a record read from the text s, with rows, as its standard text
unfoldable pub bed_written : List ℕ → Bed → List ℕ → List ℕ → List ℕ → ℕ → Outcome
bed_written s r ts qs zs room =
    written (length s) (bed_write r (name_bytes s r.chrom) (name_bytes s r.name) ts qs zs room) (bed_text r (name_bytes s r.chrom) (name_bytes s r.name) ts zs)

unfoldable pub psl_written : List ℕ → Psl → List ℕ → List ℕ → List ℕ → ℕ → Outcome
psl_written s r ts qs zs room =
    written (length s) (psl_write r (name_bytes s r.query.name) (name_bytes s r.target.name) ts qs zs room)
    (psl_text r (name_bytes s r.query.name) (name_bytes s r.target.name) ts qs zs)

unfoldable pub chain_written : List ℕ → Chain → List ℕ → List ℕ → List ℕ → ℕ → Outcome
chain_written s r ts qs zs room =
    written (length s) (chain_write r (name_bytes s r.tName) (name_bytes s r.qName) ts qs zs room) (chain_text r (name_bytes s r.tName) (name_bytes s r.qName) ts qs zs)

unfoldable pub formatted_bed : List ℕ → ℕ → Outcome
formatted_bed s room = of_bed (bed_check s) (λ r. bed_written s r (bed_targets s r) (bed_queries s r) (bed_sizes s r) room)

unfoldable pub formatted_psl : List ℕ → ℕ → Outcome
formatted_psl s room = of_psl (psl_check s) (λ r. psl_written s r (psl_targets s) (psl_queries s) (psl_sizes s) room)

unfoldable pub formatted_chain : List ℕ → ℕ → Outcome
formatted_chain s room = of_chain (chain_check s) (λ r. chain_written s r (chain_targets s r) (chain_queries s r) (chain_sizes s r) room)

unfoldable pub formatted : ℕ → List ℕ → ℕ → Outcome
formatted kind s room = by_kind kind (formatted_bed s room) (formatted_psl s room) (formatted_chain s room)

-- LIFT A POSITION: its partner and the drift; a signed number in 8 bytes, a negative one as its two's complement
abbrev pub in_word : ℤ → ℕ
in_word (pos n) = n
in_word (negsuc n) = suc largest_number - suc n

abbrev pub of_position : Result (ℕ × ℤ) Refusal → ℕ → ℕ → Outcome
of_position (Ok (q, d)) end room = numbered (no_room_at end) room (q ∷ in_word d ∷ [])
of_position (Err x) end room = refuses x

unfoldable pub position_lifted : List ℕ → ℕ → ℕ → Outcome
position_lifted s p room = of_chain (chain_check s) (λ c. of_position (lift_position c (chain_rows s c) p) (length s) room)

-- LIFT A REGION: kept, dropped, start and end of the query region
abbrev pub of_region : Result Region Refusal → ℕ → ℕ → Outcome
of_region (Ok x) end room = numbered (no_room_at end) room (x.kept ∷ x.dropped ∷ x.start ∷ x.end ∷ [])
of_region (Err x) end room = refuses x

unfoldable pub region_lifted : List ℕ → ℕ → ℕ → ℕ → Outcome
region_lifted s start end room = of_chain (chain_check s) (λ c. of_region (lift_region c (chain_rows s c) start end) (length s) room)

-- TALLY: three numbers in the lent bytes; fewer bytes are no good tally
abbrev pub bad_tally : Tally
bad_tally = record { asked = 0; kept = 1; dropped = 0 }

unfoldable pub tally_in : List ℕ → Tally
tally_in bytes =
    cond (leb (3 * word_size) (length bytes))
    (record { asked = low_at word_size bytes 0; kept = low_at word_size bytes word_size; dropped = low_at word_size bytes (2 * word_size) })
    bad_tally

abbrev pub tally_bytes : Tally → List ℕ
tally_bytes t = words_bytes (t.asked ∷ t.kept ∷ t.dropped ∷ [])

-- the tally is written where the region was lifted, and where it has no pair (12)
abbrev pub of_tallied : Result Region Refusal → Tally → Outcome
of_tallied (Ok x) t = gives x.kept (tally_bytes t)
of_tallied (Err x) t = cond (eqb (reason_number x.reason) (reason_number NoPair)) (record { answer = refusal_code x; bytes = tally_bytes t }) (refuses x)

abbrev pub tally_outcome : Tallied → Outcome
tally_outcome x = of_tallied x.answer x.tally

unfoldable pub tallied : List ℕ → ℕ → ℕ → List ℕ → Outcome
tallied s start end lent = of_chain (chain_check s) (λ c. tally_outcome (tally_step (tally_in lent) c (chain_rows s c) start end))

-- where a tally is written there is room for it
pub record TallyRoom (answer : Result Region Refusal) (lent : List ℕ) : Type 0 where
  pub lifted : (x : Region) → answer ≡ Ok x → 3 * word_size ≤ length lent
  pub alone : (x : Refusal) → answer ≡ Err x → reason_number x.reason ≡ reason_number NoPair → 3 * word_size ≤ length lent

-- LIFT A BATCH: too few rows, or a region cut short, is 11 at place 0, before the text is read; then the text's refusals; then a row of five numbers for each region
abbrev pub on_check : {A : Type 0} → Result ⊤ Refusal → (Refusal → A) → A → A
on_check (Ok tt) refused rest = rest
on_check (Err x) refused rest = refused x

unfoldable pub batch_lifted : List ℕ → List ℕ → List ℕ → ℕ → Outcome
batch_lifted s regions lent room = on_check (text_batch_check s regions room) refuses (gives (length regions / region_size) (rows_bytes (answer_rows (tally_in lent) (sent_text s regions room))))

-- the lent tally afterwards: that after the regions sent, where the bytes hold one; a refusal leaves it
unfoldable pub tally_kept : Tally → List ℕ → List ℕ
tally_kept t lent = cond (leb (3 * word_size) (length lent)) (tally_bytes t ++ drop (3 * word_size) lent) lent

unfoldable pub tally_after : List ℕ → List ℕ → List ℕ → ℕ → List ℕ
tally_after s regions lent room = on_check (text_batch_check s regions room) (λ _. lent) (tally_kept (sent_through (tally_in lent) (sent_text s regions room)) lent)

-- what the batch promises of its answer, of the rows and of the tally
pub record BatchTold (s regions lent lent' before after : List ℕ) (r : ℕ) : Type 0 where
  pub rows_told : Answered (batch_lifted s regions lent (length before)) before after r
  pub tally_left : lent' ≡ tally_after s regions lent (length before)

-- TURN: the standard text of the turned chain, its names being those of the text
abbrev pub of_turn : Result Chain Refusal → (Chain → Outcome) → Outcome
of_turn (Ok d) rest = rest d
of_turn (Err x) rest = refuses x

unfoldable pub turn_written : List ℕ → Chain → List Row → ℕ → Outcome
turn_written s c rows room =
    of_turn (turns.turn c rows block_limit)
    (λ d. chain_written s d (targets_of (turns.turned_rows c rows)) (queries_of (turns.turned_rows c rows)) (sizes_of (turns.turned_rows c rows)) room)

unfoldable pub turned_text : List ℕ → ℕ → Outcome
turned_text s room = of_chain (chain_check s) (λ c. turn_written s c (chain_rows s c) room)

-- an answer tells a refusal: its reason, the answer's remainder by 16, is not 0
abbrev pub Refusing : ℕ → Type 0
Refusing r = r % 16 ≡ 0 → ⊥
