-- Numbers as bytes, the lowest first.
use Rattle.std.specs.Prelude.{ℕ, zero, suc, ◌+◌, ◌*◌, ◌/◌, ◌%◌, ◌≤◌, ◌≡◌, List, [], ◌∷◌, ◌++◌, get_or}
use Rattle.ledger.specs.declared.Row.{Row}

-- the lowest k bytes of a number, the lowest first
unfoldable pub low_bytes : ℕ → ℕ → List ℕ
low_bytes zero n = []
low_bytes (suc k) n = n % 256 ∷ low_bytes k (n / 256)

-- a word is 8 bytes
abbrev pub word_size : ℕ
word_size = 8

-- numbers one after the other, a word each
unfoldable pub words_bytes : List ℕ → List ℕ
words_bytes [] = []
words_bytes (v ∷ vs) = low_bytes word_size v ++ words_bytes vs

-- the number that the k bytes from a place on make, the lowest first; past the end bytes count as 0
unfoldable pub low_at : ℕ → List ℕ → ℕ → ℕ
low_at zero s at = 0
low_at (suc k) s at = get_or s at 0 + 256 * low_at k s (suc at)

-- the numbers of rows, row by row: target start, query start, size
unfoldable pub rows_numbers : List Row → List ℕ
rows_numbers [] = []
rows_numbers (b ∷ bs) = b.target ∷ b.query ∷ b.size ∷ rows_numbers bs

-- what reading one byte as a number promises
pub record ByteRead (s : List ℕ) (i r : ℕ) : Type 0 where
  pub is : r ≡ get_or s i 0
  pub small : r ≤ 255
