-- What each step over numbers and over the gaps between blocks adds, on plain values; and what gaps and sizes come to in a span that blocks fill. Assumes nothing.
use mathlib.Core.Path.{◌≡◌, refl, sym, ◌∙◌, ap}
use mathlib.Core.Bool.{Bool, true, false}
use mathlib.Core.List.{List, [], ◌∷◌}
use mathlib.Core.Logic.{◌⊎◌, inl, inr}
use Prim.Native.Nat.{ℕ, zero, suc, ◌+◌, ◌-◌, ◌≤◌, ◌<◌, min}
use native.Mathlib.Omega.{arith}
use lib.ListN.{length, take, drop, get_or, length-take}
use lib.Seq.{take_all, take-take}
use lib.Dec.{ltb, eqb}
use borrow.Author.Tests.{eq-eqb, ne_eqb, eqb-true, eqb-false, ltb-true, ltb-false}
use Rattle.std.specs.List.{fold}
use Rattle.ledger.specs.Limits.{largest_number}
use Rattle.blocks.specs.Blocks.{capped, sum_of, one_gap, gaps_from, bases_from, gap_count, gap_bases}
use Rattle.blocks.proofs.BlockLaws.{first_and}

-- numbers added one by one, each sum capped
sum_from : (sum : ℕ) (l : List ℕ) → sum ≤ largest_number → fold (λ s v. capped (s + v)) sum l ≡ capped (sum + sum_of l)
unfolding sum_of
sum_from sum [] h = omega arith
sum_from sum (v ∷ l) h =
    let q = sum_from (capped (sum + v)) l (omega arith) in
    q ∙ omega arith

pub sum_folded : (l : List ℕ) → fold (λ s v. capped (s + v)) 0 l ≡ capped (sum_of l)
sum_folded l = sum_from 0 l (omega arith) ∙ omega arith

-- one more gap, or none
one_gap_lem : (e x r : ℕ) → one_gap (ltb e x) r ≡ min (x - e) 1 + r
one_gap_lem e x r = go (ltb e x) refl
  where
    go : (t : Bool) → ltb e x ≡ t → one_gap t r ≡ min (x - e) 1 + r
    go true q = let h = ltb-true e x q in omega arith
    go false q = let h = ltb-false e x q in omega arith

-- where either list ends, there are no further gaps
gaps_end : (s z : ℕ) (ss zs : List ℕ) → (ss ≡ []) ⊎ (zs ≡ []) → gaps_from s z ss zs ≡ 0
unfolding gaps_from
gaps_end s z ss zs (inl e) = rw e
gaps_end s z [] zs (inr e) = refl
gaps_end s z (x ∷ ss) zs (inr e) = rw e

bases_end : (s z : ℕ) (ss zs : List ℕ) → (ss ≡ []) ⊎ (zs ≡ []) → bases_from s z ss zs ≡ 0
unfolding bases_from
bases_end s z ss zs (inl e) = rw e
bases_end s z [] zs (inr e) = refl
bases_end s z (x ∷ ss) zs (inr e) = rw e

-- no more of the lists counts than both have
gaps_cut : (s z : ℕ) (ss zs : List ℕ) (n : ℕ) → min (length ss) (length zs) ≤ n → gaps_from s z (take n ss) (take n zs) ≡ gaps_from s z ss zs
unfolding gaps_from
gaps_cut s z [] zs n h = rw (take_all {A = ℕ} n [] (omega arith))
gaps_cut s z (x ∷ ss) [] zero h = refl
gaps_cut s z (x ∷ ss) [] (suc n) h = refl
gaps_cut s z (x ∷ ss) (y ∷ zs) zero h = absurd (omega arith)
gaps_cut s z (x ∷ ss) (y ∷ zs) (suc n) h = ap (one_gap (ltb (s + z) x)) (gaps_cut x y ss zs n (omega arith))

bases_cut : (s z : ℕ) (ss zs : List ℕ) (n : ℕ) → min (length ss) (length zs) ≤ n → bases_from s z (take n ss) (take n zs) ≡ bases_from s z ss zs
unfolding bases_from
bases_cut s z [] zs n h = rw (take_all {A = ℕ} n [] (omega arith))
bases_cut s z (x ∷ ss) [] zero h = refl
bases_cut s z (x ∷ ss) [] (suc n) h = refl
bases_cut s z (x ∷ ss) (y ∷ zs) zero h = absurd (omega arith)
bases_cut s z (x ∷ ss) (y ∷ zs) (suc n) h = ap (λ b. x - (s + z) + b) (bases_cut x y ss zs n (omega arith))

count_cut : (ss zs : List ℕ) (n : ℕ) → min (length ss) (length zs) ≤ n → gap_count (take n ss) (take n zs) ≡ gap_count ss zs
unfolding gap_count
count_cut [] zs n h = rw (take_all {A = ℕ} n [] (omega arith))
count_cut (x ∷ ss) [] zero h = refl
count_cut (x ∷ ss) [] (suc n) h = refl
count_cut (x ∷ ss) (y ∷ zs) zero h = absurd (omega arith)
count_cut (x ∷ ss) (y ∷ zs) (suc n) h = gaps_cut x y ss zs n (omega arith)

all_cut : (ss zs : List ℕ) (n : ℕ) → min (length ss) (length zs) ≤ n → gap_bases (take n ss) (take n zs) ≡ gap_bases ss zs
unfolding gap_bases
all_cut [] zs n h = rw (take_all {A = ℕ} n [] (omega arith))
all_cut (x ∷ ss) [] zero h = refl
all_cut (x ∷ ss) [] (suc n) h = refl
all_cut (x ∷ ss) (y ∷ zs) zero h = absurd (omega arith)
all_cut (x ∷ ss) (y ∷ zs) (suc n) h = bases_cut x y ss zs n (omega arith)

-- the gaps between the first rows of two lists
module _ (xs ys : List ℕ) (k m n : ℕ) (em : m ≡ min k (length ys)) (en : n ≡ min m (length xs)) where
  starts_cut : take n (take k xs) ≡ take n xs
  starts_cut = take-take n k xs (omega arith)

  sizes_cut : take n (take k ys) ≡ take n ys
  sizes_cut = take-take n k ys (omega arith)

  counted : gap_count (take n xs) (take n ys) ≡ gap_count (take k xs) (take k ys)
  counted = rw (starts_cut, sizes_cut) at (count_cut (take k xs) (take k ys) n (simp length-take (omega arith)))

  added : gap_bases (take n xs) (take n ys) ≡ gap_bases (take k xs) (take k ys)
  added = rw (starts_cut, sizes_cut) at (all_cut (take k xs) (take k ys) n (simp length-take (omega arith)))

  module _ (h : n ≡ 0) where
    pub gaps_none : 0 ≡ gap_count (take k xs) (take k ys)
    unfolding gap_count
    gaps_none = rw h at counted

    pub bases_none : 0 ≡ capped (gap_bases (take k xs) (take k ys))
    unfolding gap_bases
    bases_none = let e : 0 ≡ gap_bases (take k xs) (take k ys) = rw h at added in omega arith

  module _ (some : n ≡ 0 → ⊥) (rs rz : List ℕ) (a : rs ≡ take (n - 1) (drop 1 xs)) (b : rz ≡ take (n - 1) (drop 1 ys)) where
    pub gaps_start : (0 + length rs < n) × (0 + gaps_from (get_or xs 0 0) (get_or ys 0 0) rs rz ≡ gap_count (take k xs) (take k ys))
    unfolding gap_count
    gaps_start =
        let e : gaps_from (get_or xs 0 0) (get_or ys 0 0) rs rz ≡ gap_count (take k xs) (take k ys) = rw (a, b) (rw (first_and xs n (omega arith) (omega arith), first_and ys n (omega arith) (omega arith)) at counted) in
        (rw a (omega (arith, length-take (n - 1) (drop 1 xs))), omega arith)

    pub bases_start : capped (0 + bases_from (get_or xs 0 0) (get_or ys 0 0) rs rz) ≡ capped (gap_bases (take k xs) (take k ys))
    unfolding gap_bases
    bases_start =
        let e : bases_from (get_or xs 0 0) (get_or ys 0 0) rs rz ≡ gap_bases (take k xs) (take k ys) = rw (a, b) (rw (first_and xs n (omega arith) (omega arith), first_and ys n (omega arith) (omega arith)) at added) in
        omega arith

-- the gaps that are left after a block, after those before it
module _ (s z : ℕ) (rs rz : List ℕ) where
  module _ (gaps all : ℕ) (inv : gaps + gaps_from s z rs rz ≡ all) where
    pub gaps_more : (x y : ℕ) (rs' rz' : List ℕ) → (rs ≡ x ∷ rs') × (rz ≡ y ∷ rz') → (gap one n : ℕ) → gap ≡ x - (s + z) → one ≡ min gap 1 → gaps + length rs < n
        → (gaps + one + length rs' < n) × (gaps + one + gaps_from x y rs' rz' ≡ all)
    unfolding gaps_from
    gaps_more x y rs' rz' st gap one n eg eo h =
        let t : gaps + one_gap (ltb (s + z) x) (gaps_from x y rs' rz') ≡ all = rw (st.0, st.1) at inv in
        (omega (arith, ap length st.0), omega (arith, one_gap_lem (s + z) x (gaps_from x y rs' rz')))

    pub gaps_done : (rs ≡ []) ⊎ (rz ≡ []) → gaps ≡ all
    gaps_done e = omega (arith, gaps_end s z rs rz e)

  module _ (bases all : ℕ) (inv : capped (bases + bases_from s z rs rz) ≡ capped all) where
    pub bases_more : (x y : ℕ) (rs' rz' : List ℕ) → (rs ≡ x ∷ rs') × (rz ≡ y ∷ rz') → (gap bases' : ℕ) → gap ≡ x - (s + z) → bases' ≡ capped (bases + gap) → capped (bases' + bases_from x y rs' rz') ≡ capped all
    unfolding bases_from
    bases_more x y rs' rz' st gap bases' eg eb =
        let t : capped (bases + (x - (s + z) + bases_from x y rs' rz')) ≡ capped all = rw (st.0, st.1) at inv in
        omega arith

    pub bases_done : (rs ≡ []) ⊎ (rz ≡ []) → bases ≤ largest_number → bases ≡ capped all
    bases_done e q = omega (arith, bases_end s z rs rz e)

-- against a number below the largest, a capped number compares as the number itself
pub capped_eq : (n m : ℕ) → m < largest_number → eqb (capped n) m ≡ eqb n m
capped_eq n m h = go (eqb n m) refl
  where
    go : (t : Bool) → eqb n m ≡ t → eqb (capped n) m ≡ eqb n m
    go true e = let q = eqb-true n m e in eq-eqb (capped n) m (omega arith) ∙ sym e
    go false e = ne_eqb (capped n) m (λ q. eqb-false n m e (omega arith)) ∙ sym e
