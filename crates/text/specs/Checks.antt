-- The checks of a text that every format begins with, and how a reader goes from one check to the next.
use Rattle.std.specs.Prelude.{ℕ, Bool, List, length, leb, Ok, Err, Result, ⊤}
use Rattle.ledger.specs.declared.Reason.{Reason}
use Rattle.ledger.specs.declared.Reason.TheVariants.{TextTooLong, WrongCount, ByteNotAllowed, NoRoom}
use Rattle.ledger.specs.declared.Fault.{Fault}
use Rattle.ledger.specs.Limits.{text_limit}
use Rattle.ledger.specs.Refusals.{fault_at, without_text, require}
use Rattle.text.specs.declared.Class.TheVariants.{Allowed}
use Rattle.text.specs.Scan.{end_of}
use Rattle.text.specs.Words.{line_end, next_line, next_word, word_at}
use Rattle.ledger.specs.declared.Refusal.{Refusal}

-- a fault of a text, and a refusal of a call without one
abbrev pub fault : Reason → ℕ → Result ⊤ Fault
fault why at = Err (fault_at why at)

abbrev pub refused : Reason → Result ⊤ Refusal
refused why = Err (without_text why)

-- where a stage passes go on, else stop with its fault: `stop` makes the answer of a fault, of whatever type it is
abbrev pub then_check : {A : Type 0} → (Fault → A) → Result ⊤ Fault → A → A
then_check stop (Ok tt) rest = rest
then_check stop (Err x) rest = stop x

-- at most so many bytes (1), and each of them allowed (3)
unfoldable pub text_check : List ℕ → Result ⊤ Fault
text_check s =
    require (leb (length s) text_limit) (fault TextTooLong 0)
    (require (leb (length s) (end_of Allowed s 0)) (fault ByteNotAllowed (end_of Allowed s 0)) (Ok tt))

-- a text of one line: the first line after the line that begins at a place is surplus, at its first word, or at its end if it is blank (2)
unfoldable pub last_line_check : List ℕ → ℕ → Result ⊤ Fault
last_line_check s line = require (leb (length s) (next_line s line)) (fault WrongCount (next_word s (next_line s line)).start) (Ok tt)

-- the n words of the line that begins at a place: over the most at the first surplus word, any other number that is not good at the line's end (2)
unfoldable pub words_check : List ℕ → ℕ → ℕ → ℕ → Bool → Result ⊤ Fault
words_check s line n most good =
    require (leb n most) (fault WrongCount (word_at s line most).start)
    (require good (fault WrongCount (line_end s line)) (Ok tt))

-- the room for so many blocks (11), last, at the text's end
abbrev pub room_check : List ℕ → ℕ → ℕ → Result ⊤ Fault
room_check s count room = require (leb count room) (fault NoRoom (length s)) (Ok tt)
