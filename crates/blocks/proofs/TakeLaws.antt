-- The rules of blocks see only the first rows: they hold of the first n rows of a table exactly where they hold of the table. Assumes nothing.
use mathlib.Core.Path.{◌≡◌, sym}
use mathlib.Core.List.{List}
use Prim.Native.Nat.{ℕ, ◌+◌, ◌-◌, ◌<◌}
use native.Mathlib.Omega.{arith}
use lib.ListN.{length, get_or, take, drop, length-drop}
use lib.Seq.{get_or-take, take_all}
use Rattle.blocks.specs.Rules.{Fills, Sums, Ranged}

-- lists that agree in their first n numbers
module _ (n : ℕ) (xs xs' ys ys' : List ℕ) (ex : (i : ℕ) → i < n → get_or xs i 0 ≡ get_or xs' i 0) (ey : (i : ℕ) → i < n → get_or ys i 0 ≡ get_or ys' i 0) where
  pub fills_same : (first last : ℕ) → Fills first last n xs ys → Fills first last n xs' ys'
  fills_same first last f = record {
    some = f.some;
    first_start = rw (← ex 0 f.some) f.first_start;
    order = λ i h. rw (← ex i (omega arith), ← ey i (omega arith), ← ex (i + 1) h) (f.order i h);
    last_end = let h : n - 1 < n = omega (arith, f.some) in rw (← ex (n - 1) h, ← ey (n - 1) h) f.last_end;
  }

  pub sums_same : Sums n xs ys → Sums n xs' ys'
  sums_same s = record {
    first_sum = λ h. rw (← ex 0 h) (s.first_sum h);
    next_sum = λ i h. rw (← ex (i + 1) h, ← ex i (omega arith), ← ey i (omega arith)) (s.next_sum i h);
  }

pub ranged_same : (n : ℕ) (xs xs' : List ℕ) → ((i : ℕ) → i < n → get_or xs i 0 ≡ get_or xs' i 0) → (least most : ℕ) → Ranged least most n xs → Ranged least most n xs'
ranged_same n xs xs' ex least most r = record { low = λ i h. rw (← ex i h) (r.low i h); high = λ i h. rw (← ex i h) (r.high i h) }

-- the first n rows of a table, and the table
fewer : (n : ℕ) (xs : List ℕ) (i : ℕ) → i < n → get_or xs i 0 ≡ get_or (take n xs) i 0
fewer n xs i h = sym (get_or-take n xs i 0 h)

more : (n : ℕ) (xs : List ℕ) (i : ℕ) → i < n → get_or (take n xs) i 0 ≡ get_or xs i 0
more n xs i h = get_or-take n xs i 0 h

pub fills_take : (first last n : ℕ) (ss zs : List ℕ) → Fills first last n ss zs → Fills first last n (take n ss) (take n zs)
fills_take first last n ss zs = fills_same n ss (take n ss) zs (take n zs) (fewer n ss) (fewer n zs) first last

pub fills_back : (first last n : ℕ) (ss zs : List ℕ) → Fills first last n (take n ss) (take n zs) → Fills first last n ss zs
fills_back first last n ss zs = fills_same n (take n ss) ss (take n zs) zs (more n ss) (more n zs) first last

pub sums_take : (n : ℕ) (qs zs : List ℕ) → Sums n qs zs → Sums n (take n qs) (take n zs)
sums_take n qs zs = sums_same n qs (take n qs) zs (take n zs) (fewer n qs) (fewer n zs)

pub sums_back : (n : ℕ) (qs zs : List ℕ) → Sums n (take n qs) (take n zs) → Sums n qs zs
sums_back n qs zs = sums_same n (take n qs) qs (take n zs) zs (more n qs) (more n zs)

pub ranged_take : (least most n : ℕ) (vs : List ℕ) → Ranged least most n vs → Ranged least most n (take n vs)
ranged_take least most n vs = ranged_same n vs (take n vs) (fewer n vs) least most

pub ranged_back : (least most n : ℕ) (vs : List ℕ) → Ranged least most n (take n vs) → Ranged least most n vs
ranged_back least most n vs = ranged_same n (take n vs) vs (more n vs) least most

-- a list from a place on, lent as a part to its end, is whole
pub part_all : (l : List ℕ) (b : ℕ) → take (length l - b) (drop b l) ≡ drop b l
part_all l b = take_all (length l - b) (drop b l) (rw length-drop (omega arith))
