-- What the steps of reading promise, inside the crate: the walk over the words, and the quick way through a plain line.
use Rattle.std.specs.Prelude.{ℕ, ◌-◌, ◌≤◌, ◌≡◌, Bool, ◌||◌, cond, List, length, take, get_or, leb, eqb, Ok, Err, Result, Option, Some}
use Rattle.std.proofs.lemmas.List.Edits.{sets}
use Rattle.ledger.specs.declared.Fault.{Fault}
use Rattle.text.specs.declared.Class.TheVariants.{Blank, Line, Allowed}
use Rattle.text.specs.Scan.{is_in, run}
use Rattle.text.specs.Checks.{then_check, last_line_check}
use Rattle.text.specs.Pieces.{line_of, words_of}
use Rattle.text.specs.Words.{word_count}
use Rattle.numbers.specs.Lists.{good_values}
use Rattle.binary.specs.Bytes.{words_bytes}
use Rattle.number_line.specs.Numbers.{largest_listed, words_from, numbers_in, numbers_stages, then_room}

-- the values of a line's words before the first bad one
abbrev pub good_in : List ℕ → List ℕ
good_in line = good_values 0 largest_listed (words_of line)

-- the walk: the words from the left, and the good ones stored as far as the bytes reach
pub record Walked (s before after : List ℕ) (r : Result ℕ Fault) : Type 0 where
  pub is : r ≡ then_check Err (words_from s 0 (words_of (line_of s))) (Ok (word_count s 0))
  pub stored : after ≡ sets before 0 (words_bytes (good_in (line_of s)))

-- after the length and the bytes: the words, then a surplus line
unfoldable pub line_check : List ℕ → Result ℕ Fault
line_check s = then_check Err (words_from s 0 (words_of (line_of s))) (then_check Err (last_line_check s 0) (Ok (length (numbers_in s))))

-- the length of a text without a line feed at its end
unfoldable pub feedless : List ℕ → ℕ
feedless s = cond (eqb (get_or s (length s - 1) 0) 10) (length s - 1) (length s)

-- whether a word ends at a place: by a blank, or with the line
abbrev pub is_gap : List ℕ → ℕ → Bool
is_gap line i = leb (length line) i || is_in Blank (get_or line i 0)

-- a line of numbers parted by single blanks, and their values
pub record Plain (line room : List ℕ) (n : ℕ) : Type 0 where
  pub allowed : run Allowed line ≡ length line
  pub in_line : run Line line ≡ length line
  pub count : length (words_of line) ≡ n
  pub values : good_in line ≡ take n room

-- the quick way through a line: where it answers, the line is plain; else the walk decides
pub record QuickRead (line room : List ℕ) (r : Option ℕ) : Type 0 where
  pub plain : (n : ℕ) → r ≡ Some n → Plain line room n
  pub few : (n : ℕ) → r ≡ Some n → n ≤ length room

-- and through a text
pub record QuickText (s room : List ℕ) (r : Option ℕ) : Type 0 where
  pub is : (n : ℕ) → r ≡ Some n → numbers_stages s ≡ Ok n
  pub values : (n : ℕ) → r ≡ Some n → numbers_in s ≡ take n room
  pub few : (n : ℕ) → r ≡ Some n → n ≤ length room

-- the lent bytes after a reading
abbrev pub bytes_held : Result ℕ Fault → List ℕ → List ℕ → List ℕ
bytes_held (Ok n) vs before = sets before 0 (words_bytes vs)
bytes_held (Err x) vs before = before

-- a whole reading: its answer with the room, and the bytes
pub record NumbersHeld (s before after : List ℕ) (r : Result ℕ Fault) : Type 0 where
  pub is : r ≡ then_room (numbers_stages s) (length s) (length before)
  pub left : after ≡ bytes_held r (numbers_in s) before

-- numbers into lent bytes, or 11 at the text's end
pub record Handed (end : ℕ) (vs before after : List ℕ) (r : Result ℕ Fault) : Type 0 where
  pub is : r ≡ then_room (Ok (length vs)) end (length before)
  pub left : after ≡ bytes_held r vs before
