-- What an entry for another language answers (docs/DESK.md, "Answers"), and what the lent bytes hold then.
use Rattle.std.specs.Prelude.{ℕ, ◌+◌, ◌*◌, min, ◌≡◌, List, [], ◌++◌, length, drop, leb}
use Rattle.ledger.specs.declared.Reason.{Reason}
use Rattle.ledger.specs.declared.Reason.TheVariants.{NoRoom}
use Rattle.ledger.specs.declared.Refusal.{Refusal}
use Rattle.ledger.specs.Reasons.{reason_number}
use Rattle.ledger.specs.Refusals.{fault_at, refusal_at, without_text, require}
use Rattle.ledger.specs.declared.Row.{Row}
use Rattle.binary.specs.Bytes.{words_bytes, rows_numbers}

-- places and counts over this are told as this: 2^60 − 1
abbrev pub most_told : ℕ
most_told = 1152921504606846975

-- 16 × value; the reason of a refusal is added
unfoldable pub told : ℕ → ℕ
told value = 16 * min value most_told

-- the answer, and the bytes that stand at the front of what was lent; those past them stay as they were
pub record Outcome : Type 0 where
  pub answer : ℕ
  pub bytes : List ℕ

-- accepted, with a count
abbrev pub gives : ℕ → List ℕ → Outcome
gives count bytes = record { answer = told count; bytes = bytes }

abbrev pub refusal_code : Refusal → ℕ
refusal_code x = told x.place + reason_number x.reason

-- refused, with nothing written
abbrev pub refuses : Refusal → Outcome
refuses x = record { answer = refusal_code x; bytes = [] }

-- what is wrong with an entry's own arguments is no fault of a text
abbrev pub refuses_by : Reason → Outcome
refuses_by why = refuses (without_text why)

-- the want of room of an entry with a text stands at the text's end
abbrev pub no_room_at : ℕ → Refusal
no_room_at end = refusal_at (fault_at NoRoom end)

-- what an entry promises of its answer and of what was lent to it
pub record Answered (o : Outcome) (before after : List ℕ) (r : ℕ) : Type 0 where
  pub is : r ≡ o.answer
  pub left : after ≡ o.bytes ++ drop (length o.bytes) before

-- bytes into so much room, or the refusal for want of it
unfoldable pub roomed : Refusal → ℕ → ℕ → List ℕ → Outcome
roomed short room count bytes = require (leb (length bytes) room) (refuses short) (gives count bytes)

-- numbers, 8 bytes each, the lowest first; the count is how many
unfoldable pub numbered : Refusal → ℕ → List ℕ → Outcome
numbered short room vs = roomed short room (length vs) (words_bytes vs)

-- a record's numbers, then those of its rows
abbrev pub record_numbers : List ℕ → List Row → List ℕ
record_numbers fields rows = fields ++ rows_numbers rows

abbrev pub record_bytes : List ℕ → List Row → List ℕ
record_bytes fields rows = words_bytes (record_numbers fields rows)

unfoldable pub recorded : Refusal → ℕ → List ℕ → List Row → Outcome
recorded short room fields rows = numbered short room (record_numbers fields rows)
