-- A slice cut to a room has as many numbers as the smaller of the two. Assumes nothing.
use mathlib.Core.Path.{◌≡◌, sym}
use mathlib.Core.List.{List}
use Prim.Native.Nat.{ℕ, min}
use native.Mathlib.Omega.{arith}
use lib.ListN.{length, take}
use lib.Seq.{length-take-le}

pub first_count : (n room : ℕ) (xs : List ℕ) → n ≡ min room (length xs) → n ≡ length (take n xs)
first_count n room xs e = sym (length-take-le n xs (omega arith))
