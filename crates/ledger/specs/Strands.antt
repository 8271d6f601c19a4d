-- The strand kind of 01: its opposite and its letter.
use Rattle.std.specs.Prelude.{ℕ, Bool, true, false, cond, eqb, Some, None, Option}
use Rattle.ledger.specs.declared.Strand.{Strand}
use Rattle.ledger.specs.declared.Strand.TheVariants.{Plus, Minus, Dot}

abbrev pub strand_opposite : Strand → Strand
strand_opposite Plus = Minus
strand_opposite Minus = Plus
strand_opposite Dot = Dot

-- `+`, `-`, `.`
abbrev pub strand_letter : Strand → ℕ
strand_letter Plus = 43
strand_letter Minus = 45
strand_letter Dot = 46

-- the strand of a letter
abbrev pub strand_of : ℕ → Option Strand
strand_of b = cond (eqb b (strand_letter Plus)) (Some Plus) (cond (eqb b (strand_letter Minus)) (Some Minus) (cond (eqb b (strand_letter Dot)) (Some Dot) None))

abbrev pub strand_is : Option Strand → Strand
strand_is (Some s) = s
strand_is None = Dot

-- whether a strand is told: `+` or `-`
abbrev pub is_told : Strand → Bool
is_told Plus = true
is_told Minus = true
is_told Dot = false
