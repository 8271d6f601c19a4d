-- The classes of bytes, and the scan that every other definition is made of.
use Rattle.std.specs.Prelude.{ℕ, zero, suc, ◌+◌, ◌≤◌, max, ◌≡◌, Bool, true, false, not, ◌&&◌, ◌||◌, List, [], ◌∷◌, length, drop, leb, eqb}
use Rattle.text.specs.declared.Class.{Class}
use Rattle.text.specs.declared.Class.TheVariants.{Blank, Word, Line, Allowed, Digit, Item, Graphic}

-- space and tab; what a word is made of; what a line is made of; what a text may hold; 0 to 9; what a list item is made of; what a name is made of
abbrev pub is_in : Class → ℕ → Bool
is_in Blank b = eqb b 32 || eqb b 9
is_in Word b = not (eqb b 32 || eqb b 9 || eqb b 10)
is_in Line b = not (eqb b 10)
is_in Allowed b = eqb b 9 || eqb b 10 || (leb 32 b && leb b 126)
is_in Digit b = leb 48 b && leb b 57
is_in Item b = not (eqb b 44)
is_in Graphic b = leb 33 b && leb b 126

abbrev pub one_more : Bool → ℕ → ℕ
one_more true n = suc n
one_more false n = zero

-- how many bytes at the front of s are of the class
unfoldable pub run : Class → List ℕ → ℕ
run c [] = zero
run c (b ∷ s) = one_more (is_in c b) (run c s)

-- the first place at or after i where a byte is not of the class, or the end
unfoldable pub end_of : Class → List ℕ → ℕ → ℕ
end_of c s i = i + run c (drop i s)

-- what a scan promises: the place, and where that lies, which follows from it
pub record Scanned (c : Class) (s : List ℕ) (from r : ℕ) : Type 0 where
  pub is : r ≡ end_of c s from
  pub low : from ≤ r
  pub high : r ≤ max from (length s)

-- what a leap promises: a place on the way of the scan
pub record Passed (c : Class) (s : List ℕ) (from r : ℕ) : Type 0 where
  pub is : end_of c s r ≡ end_of c s from
  pub low : from ≤ r
  pub high : r ≤ max from (length s)
