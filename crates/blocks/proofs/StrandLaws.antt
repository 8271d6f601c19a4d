-- The conversion to the other strand, twice, restores a span that lies in its sequence. Assumes nothing.
use mathlib.Core.Path.{◌≡◌, refl}
use Prim.Native.Nat.{ℕ, ◌≤◌}
use native.Mathlib.Omega.{arith}
use Rattle.ledger.specs.declared.Strand.{Strand}
use Rattle.ledger.specs.declared.Strand.TheVariants.{Plus, Minus, Dot}
use Rattle.blocks.specs.Strands.{strand_start, strand_end}

pub start_twice : (k : Strand) (size start end : ℕ) → start ≤ size → strand_start k size (strand_start k size start end) (strand_end k size start end) ≡ start
start_twice Plus size start end h = refl
start_twice Minus size start end h = omega arith
start_twice Dot size start end h = refl

pub end_twice : (k : Strand) (size start end : ℕ) → end ≤ size → strand_end k size (strand_start k size start end) (strand_end k size start end) ≡ end
end_twice Plus size start end h = refl
end_twice Minus size start end h = omega arith
end_twice Dot size start end h = refl
