-- A TEXT OF ONE LINE OF NUMBERS, any number of words (docs/DESK.md, `tenderchock_numbers`): its checks in the ledger's order, and what reading it leaves.
use Rattle.std.specs.Prelude.{ℕ, ◌*◌, ◌≡◌, List, [], ◌∷◌, map, length, leb, Ok, Err, Result, ⊤}
use Rattle.std.proofs.lemmas.List.Edits.{sets}
use Rattle.ledger.specs.declared.Reason.TheVariants.{NoRoom}
use Rattle.ledger.specs.Refusals.{fault_at, refusal_at, require}
use Rattle.text.specs.Checks.{then_check, text_check, last_line_check}
use Rattle.text.specs.Pieces.{line_of, words_of}
use Rattle.text.specs.Words.{next_word}
use Rattle.numbers.specs.Numbers.{value, number_of}
use Rattle.binary.specs.Bytes.{word_size, words_bytes}
use Rattle.ledger.specs.declared.Fault.{Fault}
use Rattle.ledger.specs.declared.Refusal.{Refusal}

-- the greatest number, of eighteen digits
abbrev pub largest_listed : ℕ
largest_listed = 999999999999999999

-- a good word lets the rest be tested; a bad one is refused at its first byte
abbrev pub or_word : Result ℕ Fault → ℕ → Result ⊤ Fault → Result ⊤ Fault
or_word (Ok v) at rest = rest
or_word (Err x) at rest = Err (fault_at x.reason at)

-- the words from a place on, from the left: misspelt (4), or out of range (5)
unfoldable pub words_from : List ℕ → ℕ → List (List ℕ) → Result ⊤ Fault
words_from s at [] = Ok tt
words_from s at (w ∷ ws) = or_word (number_of 0 largest_listed w) (next_word s at).start (words_from s (next_word s at).end ws)

-- the numbers that the words spell; a text of no line has no word
unfoldable pub numbers_in : List ℕ → List ℕ
numbers_in s = map value (words_of (line_of s))

-- length and bytes (1, 3), the words from the left (4, 5), a surplus line (2); then so many numbers
unfoldable pub numbers_stages : List ℕ → Result ℕ Fault
numbers_stages s =
    then_check Err (text_check s)
    (then_check Err (words_from s 0 (words_of (line_of s)))
    (then_check Err (last_line_check s 0)
    (Ok (length (numbers_in s)))))

-- as a caller is told
abbrev pub numbers_answer : Result ℕ Fault → Result ℕ Refusal
numbers_answer (Ok n) = Ok n
numbers_answer (Err x) = Err (refusal_at x)

unfoldable pub numbers_check : List ℕ → Result ℕ Refusal
numbers_check s = numbers_answer (numbers_stages s)

-- so many numbers into so many bytes, or 11 at the text's end
abbrev pub then_room : Result ℕ Fault → ℕ → ℕ → Result ℕ Fault
then_room (Ok n) end room = require (leb (word_size * n) room) (Err (fault_at NoRoom end)) (Ok n)
then_room (Err x) end room = Err x

-- all of them, and the room last
unfoldable pub numbers_read : List ℕ → ℕ → Result ℕ Refusal
numbers_read s room = numbers_answer (then_room (numbers_stages s) (length s) room)

-- the lent bytes afterwards: the numbers at their front, 8 bytes each, the lowest first; after a refusal as they were
abbrev pub bytes_after : Result ℕ Refusal → List ℕ → List ℕ → List ℕ
bytes_after (Ok n) vs before = sets before 0 (words_bytes vs)
bytes_after (Err x) vs before = before

-- what reading the numbers promises
pub record NumbersStored (s before after : List ℕ) (r : Result ℕ Refusal) : Type 0 where
  pub is : r ≡ numbers_read s (length before)
  pub left : after ≡ bytes_after r (numbers_in s) before
