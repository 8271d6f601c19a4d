-- A part of a list from its front has as many places as it is cut to. Assumes nothing.
use mathlib.Core.Path.{◌≡◌, sym}
use mathlib.Core.List.{List}
use Prim.Native.Nat.{ℕ, ◌≤◌, min}
use native.Mathlib.Omega.{arith}
use lib.ListN.{length, take}
use lib.Seq.{length-take-le}

pub part_within : {X : Type 0} (n m k : ℕ) (xs : List X) → n ≤ m → m ≡ min k (length xs) → n ≡ length (take n xs)
part_within n m k xs h e = sym (length-take-le n xs (omega arith))

pub part_of_all : {X : Type 0} (n m : ℕ) (xs : List X) → n ≤ m → length xs ≡ m → n ≡ length (take n xs)
part_of_all n m xs h e = sym (length-take-le n xs (omega arith))
