-- A line of the input as a case, and the words of a line.
use Rattle.std.specs.Prelude.{ℕ, Bool, true, false, not, ◌&&◌, ◌||◌, List, length, get_or, ltb, eqb, Ok, Err, Result}
use Rattle.ledger.specs.Limits.{largest_number}
use Rattle.ledger.specs.declared.Strand.{Strand}
use Rattle.ledger.specs.Strands.{strand_of, strand_is}
use Rattle.numbers.specs.Numbers.{number_of}
use Rattle.text.specs.Words.{word_at, bytes_of}
use Rattle.ledger.specs.declared.Fault.{Fault}

-- a line that is neither empty nor a comment
abbrev pub is_case : List ℕ → Bool
is_case s = ltb 0 (length s) && not (eqb (get_or s 0 0) 35)

abbrev pub pick_byte : Bool → ℕ → ℕ
pick_byte true b = b
pick_byte false b = 0

-- its first byte, where a space or nothing follows
unfoldable pub case_letter : List ℕ → ℕ
case_letter s = pick_byte (ltb (length s) 2 || eqb (get_or s 1 0) 32) (get_or s 0 0)

abbrev pub meant : Result ℕ Fault → ℕ
meant (Ok v) = v
meant (Err x) = 0

-- the number that a word spells, else 0
abbrev pub number_at : List ℕ → ℕ → ℕ
number_at s k = meant (number_of 0 largest_number (bytes_of s (word_at s 0 k)))

-- the strand that a word begins with, else none
abbrev pub strand_at : List ℕ → ℕ → Strand
strand_at s k = strand_is (strand_of (get_or s (word_at s 0 k).start 0))
