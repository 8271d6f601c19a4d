-- The tests of blocks and the same rules stated one by one say the same; and what follows from them: ends, totals, sums, and blocks moved up or down.
-- Assumes nothing.
use mathlib.Core.Path.{◌≡◌, refl, sym, ap, ◌∙◌}
use mathlib.Core.Bool.{Bool, true, false, ◌&&◌, false≢true}
use mathlib.Core.List.{List, [], ◌∷◌}
use Prim.Native.Nat.{ℕ, zero, suc, ◌+◌, ◌-◌, ◌≤◌, ◌<◌}
use native.Mathlib.Numerals.{add-one}
use native.Mathlib.Omega.{arith}
use lib.ListN.{length, get_or}
use lib.Dec.{leb, eqb}
use borrow.Author.Tests.{eq-eqb, ne_eqb, eqb-true, eqb-false, le-leb, lt-leb, leb-true, leb-false}
use Rattle.numbers.specs.Ranges.{Between, between_none, between_more}
use Rattle.blocks.specs.Blocks.{shifted_within, order_from, blocks_fill, sums_from, sums_within, sum_of, are_sums, all_between, shifted, subtracted}
use Rattle.blocks.specs.Rules.{Fills, Sums, Ranged}

pub both : (t u : Bool) → (t && u) ≡ true → (t ≡ true) × (u ≡ true)
both true u e = (refl, e)
both false u e = absurd (false≢true e)

-- blocks that fill a span: a block before others that do, and back
module _ (s z x y last : ℕ) (ss zs : List ℕ) where
  ends_later : suc (suc (length ss)) - 1 ≡ suc (suc (length ss) - 1)
  ends_later = omega arith

  fills_before : s + z ≤ x → Fills x last (suc (length ss)) (x ∷ ss) (y ∷ zs) → Fills s last (suc (suc (length ss))) (s ∷ x ∷ ss) (z ∷ y ∷ zs)
  fills_before l f = record { some = omega arith; first_start = refl; order = next; last_end = rw ends_later f.last_end }
    where
      next : (i : ℕ) → i + 1 < suc (suc (length ss)) → get_or (s ∷ x ∷ ss) i 0 + get_or (z ∷ y ∷ zs) i 0 ≤ get_or (s ∷ x ∷ ss) (i + 1) 0
      next zero h = l
      next (suc j) h = rw (add-one (suc j)) (rw (add-one j) at (f.order j (omega arith)))

  fills_after : Fills s last (suc (suc (length ss))) (s ∷ x ∷ ss) (z ∷ y ∷ zs) → Fills x last (suc (length ss)) (x ∷ ss) (y ∷ zs)
  fills_after f = record { some = omega arith; first_start = refl; order = next; last_end = rw ends_later at f.last_end }
    where
      next : (i : ℕ) → i + 1 < suc (length ss) → get_or (x ∷ ss) i 0 + get_or (y ∷ zs) i 0 ≤ get_or (x ∷ ss) (i + 1) 0
      next i h = rw (add-one i) (rw (add-one (suc i)) at (f.order (suc i) (omega arith)))

order_of : (s z last : ℕ) (ss zs : List ℕ) → order_from s z last ss zs ≡ true → Fills s last (suc (length ss)) (s ∷ ss) (z ∷ zs)
unfolding order_from
order_of s z last [] [] e = record { some = omega arith; first_start = refl; order = λ i h. absurd (omega arith); last_end = eqb-true (s + z) last e }
order_of s z last [] (y ∷ zs) e = absurd (false≢true e)
order_of s z last (x ∷ ss) [] e = absurd (false≢true e)
order_of s z last (x ∷ ss) (y ∷ zs) e =
    let b = both (leb (s + z) x) (order_from x y last ss zs) e in
    fills_before s z x y last ss zs (leb-true (s + z) x b.0) (order_of x y last ss zs b.1)

order_is : (s z last : ℕ) (ss zs : List ℕ) → length zs ≡ length ss → Fills s last (suc (length ss)) (s ∷ ss) (z ∷ zs) → order_from s z last ss zs ≡ true
unfolding order_from
order_is s z last [] [] l f = eq-eqb (s + z) last f.last_end
order_is s z last [] (y ∷ zs) l f = absurd (omega arith)
order_is s z last (x ∷ ss) [] l f = absurd (omega arith)
order_is s z last (x ∷ ss) (y ∷ zs) l f = rw (le-leb (s + z) x (f.order 0 (omega arith))) (order_is x y last ss zs (omega arith) (fills_after s z x y last ss zs f))

pub fills_of : (first last n : ℕ) (ss zs : List ℕ) → length ss ≡ n → length zs ≡ n → blocks_fill first last ss zs ≡ true → Fills first last n ss zs
unfolding blocks_fill
fills_of first last n [] zs es ez e = absurd (false≢true e)
fills_of first last n (x ∷ ss) [] es ez e = absurd (false≢true e)
fills_of first last n (x ∷ ss) (y ∷ zs) es ez e =
    let b = both (eqb x first) (order_from x y last ss zs) e in
    rw (← es, ← eqb-true x first b.0) (order_of x y last ss zs b.1)

pub fills_is : (first last n : ℕ) (ss zs : List ℕ) → length ss ≡ n → length zs ≡ n → Fills first last n ss zs → blocks_fill first last ss zs ≡ true
unfolding blocks_fill
fills_is first last n [] zs es ez f = absurd (omega (arith, f.some))
fills_is first last n (x ∷ ss) [] es ez f = absurd (omega (arith, f.some))
fills_is first last n (x ∷ ss) (y ∷ zs) es ez f =
    let g : Fills x last (suc (length ss)) (x ∷ ss) (y ∷ zs) = rw (← es, ← f.first_start) at f in
    rw (eq-eqb x first f.first_start) (order_is x y last ss zs (omega arith) g)

-- sums of the sizes before each block
pub sums_made : (acc : ℕ) (zs : List ℕ) → are_sums acc (sums_from acc zs) zs ≡ true
unfolding are_sums sums_from
sums_made acc [] = refl
sums_made acc (z ∷ zs) = rw (eq-eqb acc acc refl) (sums_made (acc + z) zs)

pub sums_only : (acc : ℕ) (qs zs : List ℕ) → are_sums acc qs zs ≡ true → qs ≡ sums_from acc zs
unfolding are_sums sums_from
sums_only acc [] [] e = refl
sums_only acc [] (z ∷ zs) e = absurd (false≢true e)
sums_only acc (q ∷ qs) [] e = absurd (false≢true e)
sums_only acc (q ∷ qs) (z ∷ zs) e =
    let b = both (eqb q acc) (are_sums (acc + z) qs zs) e in
    rw (eqb-true q acc b.0, sums_only (acc + z) qs zs b.1)

pub sums_length : (acc : ℕ) (zs : List ℕ) → length (sums_from acc zs) ≡ length zs
unfolding sums_from
sums_length acc [] = refl
sums_length acc (z ∷ zs) = ap suc (sums_length (acc + z) zs)

-- where their total fits, all sums are within a number
pub sums_within_lem : (most acc : ℕ) (zs : List ℕ) → acc + sum_of zs ≤ most → sums_within most acc zs ≡ sums_from acc zs
unfolding sums_within sums_from sum_of
sums_within_lem most acc [] h = refl
sums_within_lem most acc (z ∷ zs) h = rw (le-leb (acc + z) most (omega arith), sums_within_lem most (acc + z) zs (omega arith))

first_sum : (acc : ℕ) (qs zs : List ℕ) → are_sums acc qs zs ≡ true → 1 ≤ length qs → get_or qs 0 0 ≡ acc
unfolding are_sums
first_sum acc [] zs e h = absurd (omega arith)
first_sum acc (q ∷ qs) [] e h = absurd (false≢true e)
first_sum acc (q ∷ qs) (z ∷ zs) e h = eqb-true q acc (both (eqb q acc) (are_sums (acc + z) qs zs) e).0

next_sum : (acc : ℕ) (qs zs : List ℕ) → are_sums acc qs zs ≡ true → (i : ℕ) → i + 1 < length qs → get_or qs (i + 1) 0 ≡ get_or qs i 0 + get_or zs i 0
unfolding are_sums
next_sum acc [] zs e i h = absurd (omega arith)
next_sum acc (q ∷ qs) [] e i h = absurd (false≢true e)
next_sum acc (q ∷ qs) (z ∷ zs) e zero h =
    let b = both (eqb q acc) (are_sums (acc + z) qs zs) e in
    first_sum (acc + z) qs zs b.1 (omega arith) ∙ ap (λ (v : ℕ). v + z) (sym (eqb-true q acc b.0))
next_sum acc (q ∷ qs) (z ∷ zs) e (suc i) h =
    let b = both (eqb q acc) (are_sums (acc + z) qs zs) e in
    rw (add-one (suc i)) (rw (add-one i) at (next_sum (acc + z) qs zs b.1 i (omega arith)))

pub sums_of : (n : ℕ) (qs zs : List ℕ) → length qs ≡ n → length zs ≡ n → are_sums 0 qs zs ≡ true → Sums n qs zs
sums_of n qs zs eq ez e = record { first_sum = λ h. first_sum 0 qs zs e (omega arith); next_sum = λ i h. next_sum 0 qs zs e i (omega arith) }

steps_sums : (acc : ℕ) (qs zs : List ℕ) → length zs ≡ length qs → (1 ≤ length qs → get_or qs 0 0 ≡ acc) → ((i : ℕ) → i + 1 < length qs → get_or qs (i + 1) 0 ≡ get_or qs i 0 + get_or zs i 0) → are_sums acc qs zs ≡ true
unfolding are_sums
steps_sums acc [] [] l f g = refl
steps_sums acc [] (z ∷ zs) l f g = absurd (omega arith)
steps_sums acc (q ∷ qs) [] l f g = absurd (omega arith)
steps_sums acc (q ∷ qs) (z ∷ zs) l f g =
    let a : q ≡ acc = f (omega arith) in
    rw (eq-eqb q acc a) (steps_sums (acc + z) qs zs (omega arith) (λ h. g 0 (omega arith) ∙ ap (λ (v : ℕ). v + z) a) next)
  where
    next : (i : ℕ) → i + 1 < length qs → get_or qs (i + 1) 0 ≡ get_or qs i 0 + get_or zs i 0
    next i h = rw (add-one i) (rw (add-one (suc i)) at (g (suc i) (omega arith)))

pub sums_is : (n : ℕ) (qs zs : List ℕ) → length qs ≡ n → length zs ≡ n → Sums n qs zs → are_sums 0 qs zs ≡ true
sums_is n qs zs eq ez s = steps_sums 0 qs zs (omega arith) (λ h. s.first_sum (omega arith)) (λ i h. s.next_sum i (omega arith))

-- numbers in a range
pub between_of : (least most : ℕ) (vs : List ℕ) → all_between least most vs ≡ true → Between least most vs
unfolding all_between
between_of least most [] e = between_none
between_of least most (v ∷ vs) e =
    let b = both (leb least v && leb v most) (all_between least most vs) e in
    let d = both (leb least v) (leb v most) b.0 in
    between_more (leb-true least v d.0) (leb-true v most d.1) (between_of least most vs b.1)

pub between_is : (least most : ℕ) (vs : List ℕ) → Between least most vs → all_between least most vs ≡ true
unfolding all_between
between_is least most [] between_none = refl
between_is least most (v ∷ vs) (between_more l m r) = rw (le-leb least v l, le-leb v most m) (between_is least most vs r)

between_at : (least most : ℕ) (vs : List ℕ) → Between least most vs → (i : ℕ) → i < length vs → (least ≤ get_or vs i 0) × (get_or vs i 0 ≤ most)
between_at least most [] b i h = absurd (omega arith)
between_at least most (v ∷ vs) (between_more l m r) zero h = (l, m)
between_at least most (v ∷ vs) (between_more l m r) (suc i) h = between_at least most vs r i (omega arith)

pub ranged_of : (least most n : ℕ) (vs : List ℕ) → length vs ≡ n → all_between least most vs ≡ true → Ranged least most n vs
ranged_of least most n vs l e =
    let b = between_of least most vs e in
    record { low = λ i h. (between_at least most vs b i (omega arith)).0; high = λ i h. (between_at least most vs b i (omega arith)).1 }

pub ranged_is : (least most n : ℕ) (vs : List ℕ) → length vs ≡ n → Ranged least most n vs → all_between least most vs ≡ true
unfolding all_between
ranged_is least most n [] l r = refl
ranged_is least most n (v ∷ vs) l r =
    let rest : Ranged least most (length vs) vs = record { low = λ i h. r.low (suc i) (omega arith); high = λ i h. r.high (suc i) (omega arith) } in
    rw (le-leb least v (r.low 0 (omega arith)), le-leb v most (r.high 0 (omega arith))) (ranged_is least most (length vs) vs refl rest)

-- where blocks fill a span, their sizes and starts fit into it
order_total : (s z last : ℕ) (ss zs : List ℕ) → order_from s z last ss zs ≡ true → s + (z + sum_of zs) ≤ last
unfolding order_from sum_of
order_total s z last [] [] e = let h = eqb-true (s + z) last e in omega arith
order_total s z last [] (y ∷ zs) e = absurd (false≢true e)
order_total s z last (x ∷ ss) [] e = absurd (false≢true e)
order_total s z last (x ∷ ss) (y ∷ zs) e =
    let b = both (leb (s + z) x) (order_from x y last ss zs) e in
    let h = leb-true (s + z) x b.0 in
    let t = order_total x y last ss zs b.1 in
    omega arith

fill_total : (first last : ℕ) (ss zs : List ℕ) → blocks_fill first last ss zs ≡ true → first + sum_of zs ≤ last
unfolding blocks_fill sum_of
fill_total first last [] zs e = absurd (false≢true e)
fill_total first last (x ∷ ss) [] e = absurd (false≢true e)
fill_total first last (x ∷ ss) (y ∷ zs) e =
    let b = both (eqb x first) (order_from x y last ss zs) e in
    let h = eqb-true x first b.0 in
    let t = order_total x y last ss zs b.1 in
    omega arith

pub total_fits : (first last : ℕ) (ss zs : List ℕ) → blocks_fill first last ss zs ≡ true → sum_of zs ≤ last - first
total_fits first last ss zs e = let t = fill_total first last ss zs e in omega arith

order_low : (first s z last : ℕ) (ss zs : List ℕ) → first ≤ s → order_from s z last ss zs ≡ true → all_between first last ss ≡ true
unfolding order_from all_between
order_low first s z last [] zs l e = refl
order_low first s z last (x ∷ ss) [] l e = absurd (false≢true e)
order_low first s z last (x ∷ ss) (y ∷ zs) l e =
    let b = both (leb (s + z) x) (order_from x y last ss zs) e in
    let h = leb-true (s + z) x b.0 in
    let t = order_total x y last ss zs b.1 in
    rw (le-leb first x (omega arith), le-leb x last (omega arith)) (order_low first x y last ss zs (omega arith) b.1)

pub fill_low : (first last : ℕ) (ss zs : List ℕ) → blocks_fill first last ss zs ≡ true → all_between first last ss ≡ true
unfolding blocks_fill all_between
fill_low first last [] zs e = refl
fill_low first last (x ∷ ss) [] e = absurd (false≢true e)
fill_low first last (x ∷ ss) (y ∷ zs) e =
    let b = both (eqb x first) (order_from x y last ss zs) e in
    let h = eqb-true x first b.0 in
    let t = order_total x y last ss zs b.1 in
    rw (le-leb first x (omega arith), le-leb x last (omega arith)) (order_low first x y last ss zs (omega arith) b.1)

-- blocks moved up by a number
same_eqb : (a x y : ℕ) → eqb (a + x) (a + y) ≡ eqb x y
same_eqb a x y = go (eqb x y) refl
  where
    go : (t : Bool) → eqb x y ≡ t → eqb (a + x) (a + y) ≡ eqb x y
    go true e = let h = eqb-true x y e in eq-eqb (a + x) (a + y) (omega arith) ∙ sym e
    go false e = ne_eqb (a + x) (a + y) (λ q. eqb-false x y e (omega arith)) ∙ sym e

same_leb : (a s z x : ℕ) → leb (a + s + z) (a + x) ≡ leb (s + z) x
same_leb a s z x = go (leb (s + z) x) refl
  where
    go : (t : Bool) → leb (s + z) x ≡ t → leb (a + s + z) (a + x) ≡ leb (s + z) x
    go true e = let h = leb-true (s + z) x e in le-leb (a + s + z) (a + x) (omega arith) ∙ sym e
    go false e = let h = leb-false (s + z) x e in lt-leb (a + s + z) (a + x) (omega arith) ∙ sym e

order_shift : (a s z last : ℕ) (ss zs : List ℕ) → order_from (a + s) z (a + last) (shifted a ss) zs ≡ order_from s z last ss zs
unfolding order_from shifted
order_shift a s z last [] [] = let q : a + s + z ≡ a + (s + z) = omega arith in rw q (same_eqb a (s + z) last)
order_shift a s z last [] (y ∷ zs) = refl
order_shift a s z last (x ∷ ss) [] = refl
order_shift a s z last (x ∷ ss) (y ∷ zs) = rw (same_leb a s z x, order_shift a x y last ss zs)

pub fill_shift : (a first last : ℕ) (ss zs : List ℕ) → blocks_fill (a + first) (a + last) (shifted a ss) zs ≡ blocks_fill first last ss zs
unfolding blocks_fill shifted
fill_shift a first last [] zs = refl
fill_shift a first last (x ∷ ss) [] = refl
fill_shift a first last (x ∷ ss) (y ∷ zs) = rw (same_eqb a x first, order_shift a x y last ss zs)

pub shifted_length : (a : ℕ) (xs : List ℕ) → length (shifted a xs) ≡ length xs
unfolding shifted
shifted_length a [] = refl
shifted_length a (x ∷ xs) = ap suc (shifted_length a xs)

pub back_shifted : (a most : ℕ) (xs : List ℕ) → all_between a most xs ≡ true → shifted a (subtracted a xs) ≡ xs
unfolding shifted subtracted all_between
back_shifted a most [] e = refl
back_shifted a most (x ∷ xs) e =
    let b = both (leb a x && leb x most) (all_between a most xs) e in
    let h = leb-true a x (both (leb a x) (leb x most) b.0).0 in
    let q : a + (x - a) ≡ x = omega arith in
    rw (q, back_shifted a most xs b.1)

-- and numbers moved up and down again
pub shifted_back : (a : ℕ) (xs : List ℕ) → subtracted a (shifted a xs) ≡ xs
unfolding shifted subtracted
shifted_back a [] = refl
shifted_back a (x ∷ xs) =
    let q : a + x - a ≡ x = omega arith in
    rw (q, shifted_back a xs)

-- where all of them fit, all numbers moved up are within a number
pub shifted_within_lem : (most a high : ℕ) (xs : List ℕ) → all_between 0 high xs ≡ true → a + high ≤ most → shifted_within most a xs ≡ shifted a xs
unfolding shifted_within shifted all_between
shifted_within_lem most a high [] e h = refl
shifted_within_lem most a high (x ∷ xs) e h =
    let b = both (leb 0 x && leb x high) (all_between 0 high xs) e in
    let l = leb-true x high (both (leb 0 x) (leb x high) b.0).1 in
    rw (le-leb (a + x) most (omega arith), shifted_within_lem most a high xs b.1 h)

-- numbers in a range are in a wider one
pub wider : (a b c d : ℕ) (vs : List ℕ) → c ≤ a → b ≤ d → all_between a b vs ≡ true → all_between c d vs ≡ true
unfolding all_between
wider a b c d [] l h e = refl
wider a b c d (v ∷ vs) l h e =
    let p = both (leb a v && leb v b) (all_between a b vs) e in
    let q = both (leb a v) (leb v b) p.0 in
    let x = leb-true a v q.0 in
    let y = leb-true v b q.1 in
    rw (le-leb c v (omega arith), le-leb v d (omega arith)) (wider a b c d vs l h p.1)

-- numbers moved down are as many
pub subtracted_length : (a : ℕ) (xs : List ℕ) → length (subtracted a xs) ≡ length xs
unfolding subtracted
subtracted_length a [] = refl
subtracted_length a (x ∷ xs) = ap suc (subtracted_length a xs)
