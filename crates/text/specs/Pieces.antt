-- Cutting bytes into pieces: lines at line feeds, list items at commas, words at blanks. One definition serves all three.
use Rattle.std.specs.Prelude.{ℕ, ◌≡◌, cond, List, [], ◌∷◌, ◌++◌, take}
use Rattle.text.specs.declared.Class.{Class}
use Rattle.text.specs.declared.Class.TheVariants.{Word, Line}
use Rattle.text.specs.Scan.{is_in, run}

-- a byte goes in front of the first piece
abbrev pub onto : ℕ → List (List ℕ) → List (List ℕ)
onto b [] = (b ∷ []) ∷ []
onto b (x ∷ xs) = (b ∷ x) ∷ xs

-- the pieces of bytes of a class, each ended by one byte that is not of it; such a byte at the very end opens no further piece
unfoldable pub pieces_of : Class → List ℕ → List (List ℕ)
pieces_of c [] = []
pieces_of c (b ∷ s) = cond (is_in c b) (onto b (pieces_of c s)) ([] ∷ pieces_of c s)

-- the lines of a text: an empty text has none, a lone line feed is one of no bytes, and the last may lack its feed
unfoldable pub lines_of : List ℕ → List (List ℕ)
lines_of s = pieces_of Line s

abbrev pub or_skip : List ℕ → List (List ℕ) → List (List ℕ)
or_skip [] xs = xs
or_skip (b ∷ w) xs = (b ∷ w) ∷ xs

-- the pieces that hold a byte
unfoldable pub non_empty : List (List ℕ) → List (List ℕ)
non_empty [] = []
non_empty (x ∷ xs) = or_skip x (non_empty xs)

-- the words of a line's bytes: parted by one or more blanks, and blanks at either end don't count
unfoldable pub words_of : List ℕ → List (List ℕ)
words_of line = non_empty (pieces_of Word line)

-- the bytes of the line at the front of s
unfoldable pub line_of : List ℕ → List ℕ
line_of s = take (run Line s) s

-- words put together to a line, with one separator between each two
unfoldable pub joined : ℕ → List (List ℕ) → List ℕ
joined sep [] = []
joined sep (w ∷ []) = w
joined sep (w ∷ (v ∷ ws)) = w ++ (sep ∷ joined sep (v ∷ ws))

-- a line in standard form, its feed apart: its words, with a tab between each two
pub record Plain (s : List ℕ) : Type 0 where
  pub is : line_of s ≡ joined 9 (words_of (line_of s))
