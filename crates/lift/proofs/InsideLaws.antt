-- The test of a base against a block, as the code makes it: below the block's start, or by the distance from it. Assumes nothing.
use mathlib.Core.Path.{◌≡◌, sym, ◌∙◌}
use mathlib.Core.Bool.{false}
use Prim.Native.Nat.{ℕ, ◌+◌, ◌-◌, ◌≤◌, ◌<◌}
use native.Mathlib.Omega.{arith}
use lib.Dec.{ltb}
use borrow.Author.Tests.{lt-leb, le-leb, lt-ltb, le-ltb}
use Rattle.lift.specs.Pairs.{in_block}
use Rattle.lift.proofs.RunLaws.{either}

pub outside_low : (x z p : ℕ) → p < x → false ≡ in_block x z p
outside_low x z p h = rw (lt-leb x p h)

pub inside_is : (x z p : ℕ) → x ≤ p → ltb (p - x) z ≡ in_block x z p
inside_is x z p h = rw (le-leb x p h) (either (x + z) p _
    (λ k. let l : z ≤ p - x = omega arith in le-ltb _ _ l ∙ sym (le-ltb _ _ k))
    (λ k. let l : p - x < z = omega arith in lt-ltb _ _ l ∙ sym (lt-ltb _ _ k)))
