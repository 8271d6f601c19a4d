-- What writing a text answers, and what it leaves in the buffer: too little room changes nothing, and bytes past the text stay.
use Rattle.std.specs.Prelude.{ℕ, ◌≡◌, List, ◌++◌, length, drop, leb, Ok, Err, Result}
use Rattle.ledger.specs.declared.Reason.{Reason}
use Rattle.ledger.specs.declared.Reason.TheVariants.{TextTooLong, NoRoom}
use Rattle.ledger.specs.Limits.{text_limit}
use Rattle.ledger.specs.Refusals.{without_text, require}
use Rattle.ledger.specs.declared.Refusal.{Refusal}

-- writing is a call without a text
abbrev pub unwritten : Reason → Result ℕ Refusal
unwritten why = Err (without_text why)

-- a standard text of so many bytes: its length (1), then the room (11)
unfoldable pub room_answer : ℕ → ℕ → Result ℕ Refusal
room_answer n room = require (leb n text_limit) (unwritten TextTooLong) (require (leb n room) (unwritten NoRoom) (Ok n))

-- what the buffer holds then
abbrev pub left_after : Result ℕ Refusal → List ℕ → List ℕ → List ℕ
left_after (Ok n) bytes before = bytes ++ drop n before
left_after (Err x) bytes before = before

-- what writing a text to the front of a buffer promises
pub record Wrote (bytes before after : List ℕ) (r : Result ℕ Refusal) : Type 0 where
  pub is : r ≡ room_answer (length bytes) (length before)
  pub left : after ≡ left_after r bytes before
