-- THE SAME WITH NO ORDER OF CHECKS: the words of the one line are the digits of the numbers, each in its range.
use Rattle.std.specs.Prelude.{ℕ, ◌≤◌, ◌≡◌, List, map, length}
use Rattle.ledger.specs.Limits.{text_limit}
use Rattle.text.specs.declared.Class.TheVariants.{Allowed}
use Rattle.text.specs.Scan.{run}
use Rattle.text.specs.Pieces.{lines_of, line_of, words_of}
use Rattle.numbers.specs.Ranges.{Between}
use Rattle.writing.specs.Digits.{digits}
use Rattle.number_line.specs.Numbers.{largest_listed}

pub record NumbersText (s vs : List ℕ) : Type 0 where
  pub short : length s ≤ text_limit
  pub allowed : run Allowed s ≡ length s
  pub one_line : length (lines_of s) ≤ 1
  pub range : Between 0 largest_listed vs
  pub words : words_of (line_of s) ≡ map digits vs
