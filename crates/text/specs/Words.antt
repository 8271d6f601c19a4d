-- Lines and words by their places in a text.
use Rattle.std.specs.Prelude.{ℕ, zero, suc, ◌+◌, ◌-◌, ◌≤◌, max, ◌≡◌, cond, List, length, take, drop, ltb}
use Rattle.text.specs.declared.Class.TheVariants.{Blank, Word, Line}
use Rattle.text.specs.declared.Extent.{Extent}
use Rattle.text.specs.Scan.{end_of}
use Rattle.text.specs.Pieces.{words_of, line_of}

-- the place of the line feed that ends the line, or the text's length
unfoldable pub line_end : List ℕ → ℕ → ℕ
line_end s line = end_of Line s line

-- the place after the line's feed, or its end where it has none: a further line begins there exactly when that place is inside the text
unfoldable pub next_line : List ℕ → ℕ → ℕ
next_line s line = cond (ltb (line_end s line) (length s)) (line_end s line + 1) (line_end s line)

-- the word at or after i, past the blanks; at the line's end it is empty
unfoldable pub next_word : List ℕ → ℕ → Extent
next_word s i = record { start = end_of Blank s i; end = end_of Word s (end_of Blank s i) }

-- word k, counted from 0, of the line that begins at a place; past the last word it is empty and stands at the line's end
unfoldable pub word_at : List ℕ → ℕ → ℕ → Extent
word_at s line zero = next_word s line
word_at s line (suc k) = next_word s (word_at s line k).end

-- the number of words from a place to the end of its line
unfoldable pub word_count : List ℕ → ℕ → ℕ
word_count s line = length (words_of (line_of (drop line s)))

-- the bytes of an extent
unfoldable pub bytes_of : List ℕ → Extent → List ℕ
bytes_of s w = take (w.end - w.start) (drop w.start s)

-- what finding the end of a line promises: the place, and where that lies
pub record LineEnd (s : List ℕ) (line r : ℕ) : Type 0 where
  pub is : r ≡ line_end s line
  pub low : line ≤ r
  pub high : r ≤ max line (length s)

-- what finding a word promises: the word x, and where it lies, which follows
pub record Found (x : Extent) (s : List ℕ) (from : ℕ) (r : Extent) : Type 0 where
  pub is : r ≡ x
  pub low : from ≤ r.start
  pub mid : r.start ≤ r.end
  pub high : r.end ≤ max from (length s)
