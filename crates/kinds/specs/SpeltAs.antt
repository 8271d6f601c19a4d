-- WHAT A WORD SPELLS, said of its bytes alone and by no function of a reader: a number is the decimal digits of its value, a list such numbers
-- parted by single commas, one comma more allowed at its end.
use Rattle.std.specs.Prelude.{ℕ, ◌≤◌, ◌≡◌, Bool, true, ◌⊎◌, List, [], ◌∷◌, ◌++◌, map, length}
use Rattle.ledger.specs.Limits.{name_limit, colour_limit}
use Rattle.ledger.specs.Strands.{strand_letter}
use Rattle.ledger.specs.declared.Strand.TheVariants.{Plus, Minus, Dot}
use Rattle.text.specs.Pieces.{joined}
use Rattle.numbers.specs.Ranges.{Between}
use Rattle.writing.specs.Digits.{digits}
use Rattle.kinds.specs.declared.Range.TheVariants.{BlockCount}
use Rattle.kinds.specs.declared.Kind.{Kind}
use Rattle.kinds.specs.declared.Kind.TheVariants.{Name, Number, Count, Items, Stranded, Word, Colour}
use Rattle.kinds.specs.Kinds.{least_of, most_of, fixed_text, packed}

-- the digits of a number in a range
pub record Decimal (least most : ℕ) (w : List ℕ) (v : ℕ) : Type 0 where
  pub low : least ≤ v
  pub high : v ≤ most
  pub word : w ≡ digits v

-- numbers parted by single commas
abbrev pub parted : List ℕ → List ℕ
parted us = joined 44 (map digits us)

-- n of them, at least one, each in its range; one comma more is allowed
pub record Listed (least most n : ℕ) (w us : List ℕ) : Type 0 where
  pub some : 1 ≤ length us
  pub count : length us ≡ n
  pub range : Between least most us
  pub word : (w ≡ parted us) ⊎ (w ≡ parted us ++ (44 ∷ []))

-- a strand's letter: `+`, `-`, and `.` where it is allowed
abbrev pub Letter : Bool → ℕ → Type 0
Letter dot v = (v ≡ strand_letter Plus) ⊎ ((v ≡ strand_letter Minus) ⊎ ((dot ≡ true) × (v ≡ strand_letter Dot)))

-- three numbers to 255, with no comma at the end
pub record Mixed (w : List ℕ) (v : ℕ) : Type 0 where
  pub red : ℕ
  pub green : ℕ
  pub blue : ℕ
  pub range : Between 0 colour_limit (red ∷ green ∷ blue ∷ [])
  pub word : w ≡ parted (red ∷ green ∷ blue ∷ [])
  pub value : v ≡ packed red green blue

-- the word w of a kind, n being the last count before it, spells the value v, and the numbers us where it is a list
abbrev pub SpeltAs : Kind → ℕ → List ℕ → ℕ → List ℕ → Type 0
SpeltAs Name n w v us = (v ≡ length w) × (1 ≤ length w) × (length w ≤ name_limit) × (us ≡ [])
SpeltAs (Number r) n w v us = Decimal (least_of r) (most_of r) w v × (us ≡ [])
SpeltAs Count n w v us = Decimal (least_of BlockCount) (most_of BlockCount) w v × (us ≡ [])
SpeltAs (Items r) n w v us = Listed (least_of r) (most_of r) n w us × (v ≡ n)
SpeltAs (Stranded dot) n w v us = (w ≡ v ∷ []) × Letter dot v × (us ≡ [])
SpeltAs (Word f) n w v us = (w ≡ fixed_text f) × (v ≡ 0) × (us ≡ [])
SpeltAs Colour n w v us = (((w ≡ 48 ∷ []) × (v ≡ 0)) ⊎ Mixed w v) × (us ≡ [])
