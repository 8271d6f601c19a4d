-- A word that spells a value of a kind: the value lies in the kind's range, and the word is what that kind allows. Assumes nothing.
use mathlib.Core.Path.{◌≡◌, refl}
use mathlib.Core.Bool.{Bool, true, false, ◌&&◌, cond}
use mathlib.Core.List.{List, [], ◌∷◌}
use Prim.Native.Nat.{ℕ, zero, suc, ◌*◌, ◌≤◌, ◌<◌, zero-le}
use native.Mathlib.Omega.{arith}
use lib.ListN.{length, get_or}
use lib.Dec.{leb, eqb}
use borrow.Author.Tests.{leb-true, eqb-true}
use Rattle.ledger.specs.Limits.{name_limit, colour_limit}
use Rattle.numbers.specs.Ranges.{Between, between_none, between_more}
use Rattle.numbers.specs.Lists.{items_of, test_items, values_of, then_count, list_of}
use Rattle.numbers.proofs.ListLaws.{number_range, list_ended, list_range, good_values_lem}
use Rattle.kinds.specs.declared.Range.{Range}
use Rattle.kinds.specs.declared.Range.TheVariants.{BlockCount}
use Rattle.kinds.specs.declared.Kind.TheVariants.{Name, Number, Count, Items, Stranded, Colour}
use Rattle.kinds.specs.Kinds.{least_of, most_of, is_strand, same_bytes, packed, colour_of, whole_of, name_of, strand_of, spelt, items_in}
use Rattle.std.specs.Prelude.{Ok, Err, Result}
use Rattle.ledger.specs.declared.Fault.{Fault}

-- a number, and a count
pub number_spelt : (r : Range) (n : ℕ) (w : List ℕ) (v : ℕ) → spelt (Number r) n w ≡ Ok v → (least_of r ≤ v) × (v ≤ most_of r)
unfolding spelt
number_spelt r n w v e = number_range (least_of r) (most_of r) w v e

pub count_spelt : (n : ℕ) (w : List ℕ) (v : ℕ) → spelt Count n w ≡ Ok v → (least_of BlockCount ≤ v) × (v ≤ most_of BlockCount)
unfolding spelt
count_spelt n w v e = number_range (least_of BlockCount) (most_of BlockCount) w v e

-- a list: all its numbers are stored, each lies in its range, and they are as many as the last count says
pub items_spelt : (r : Range) (n : ℕ) (w : List ℕ) (v : ℕ) → spelt (Items r) n w ≡ Ok v → (items_in (Items r) w ≡ values_of w) × Between (least_of r) (most_of r) (values_of w) × (length (values_of w) ≡ n) × (v ≡ n)
unfolding spelt list_of
items_spelt r n w v e =
    let d = list_ended true n w (test_items (least_of r) (most_of r) 0 0 (items_of w)) v e in
    let k = list_range (least_of r) (most_of r) true n w v e in
    (good_values_lem (least_of r) (most_of r) w v d.items, k.0, k.1, k.2)

-- a word that is good as a whole
whole_is : (t : Bool) (x v : ℕ) → whole_of t x ≡ Ok v → (t ≡ true) × (v ≡ x)
whole_is true x v e = (refl, cc)
whole_is false x v e = absurd (let z : ◌≡◌ {A = ℕ} 0 1 = cc in omega arith)

both : (a b : Bool) → (a && b) ≡ true → (a ≡ true) × (b ≡ true)
both true b e = (refl, e)
both false b e = absurd (let z : ◌≡◌ {A = ℕ} 0 1 = cc in omega arith)

-- a name
pub name_spelt : (n : ℕ) (w : List ℕ) (v : ℕ) → spelt Name n w ≡ Ok v → (v ≡ length w) × (1 ≤ v) × (v ≤ name_limit)
unfolding spelt name_of
name_spelt n w v e =
    let g = whole_is (leb 1 (length w) && leb (length w) name_limit) (length w) v e in
    let b = both (leb 1 (length w)) (leb (length w) name_limit) g.0 in
    let l = leb-true 1 (length w) b.0 in
    let h = leb-true (length w) name_limit b.1 in
    let q = g.1 in
    (q, omega arith, omega arith)

-- a strand
one_letter : (dot : Bool) (w : List ℕ) → is_strand dot w ≡ true → w ≡ get_or w 0 0 ∷ []
one_letter dot [] h = absurd (let z : ◌≡◌ {A = ℕ} 0 1 = cc in omega arith)
one_letter dot (x ∷ []) h = refl
one_letter dot (x ∷ y ∷ w) h = absurd (omega (arith, eqb-true (length (x ∷ y ∷ w)) 1 (both (eqb (length (x ∷ y ∷ w)) 1) _ h).0))

pub strand_spelt : (dot : Bool) (n : ℕ) (w : List ℕ) (v : ℕ) → spelt (Stranded dot) n w ≡ Ok v → (is_strand dot (v ∷ []) ≡ true) × (w ≡ v ∷ [])
unfolding spelt strand_of
strand_spelt dot n w v e =
    let g = whole_is (is_strand dot w) (get_or w 0 0) v e in
    let q : w ≡ v ∷ [] = rw g.1 (one_letter dot w g.0) in
    (rw q at g.0, q)

-- a colour
pub between_at : {least most : ℕ} {vs : List ℕ} → Between least most vs → (i : ℕ) → get_or vs i 0 ≤ most
between_at between_none i = zero-le
between_at (between_more l h t) zero = h
between_at (between_more l h t) (suc i) = between_at t i

-- the number of a colour whose three numbers are a list
abbrev three : List ℕ → ℕ
three vs = packed (get_or vs 0 0) (get_or vs 1 0) (get_or vs 2 0)

packed_small : (r g b : ℕ) → r ≤ colour_limit → g ≤ colour_limit → b ≤ colour_limit → packed r g b < suc colour_limit * suc colour_limit * suc colour_limit
packed_small r g b h k l = omega arith

pub colour_spelt : (n : ℕ) (w : List ℕ) (v : ℕ) → spelt Colour n w ≡ Ok v → v < suc colour_limit * suc colour_limit * suc colour_limit
unfolding spelt colour_of
colour_spelt n w v e = go (same_bytes w (48 ∷ [])) (list_of 0 colour_limit false 3 w) refl e
  where
    go : (t : Bool) (x : Result ℕ Fault) → list_of 0 colour_limit false 3 w ≡ x → cond t (Ok 0) (then_count x (λ m. Ok (three (values_of w)))) ≡ Ok v → v < suc colour_limit * suc colour_limit * suc colour_limit
    go true x p q = let z : v ≡ 0 = cc in omega arith
    go false (Ok m) p q =
        let z : three (values_of w) ≡ v = cc in
        let b = (list_range 0 colour_limit false 3 w m p).0 in
        rw z at (packed_small (get_or (values_of w) 0 0) (get_or (values_of w) 1 0) (get_or (values_of w) 2 0) (between_at b 0) (between_at b 1) (between_at b 2))
    go false (Err bad) p q = absurd (let z : ◌≡◌ {A = ℕ} 0 1 = cc in omega arith)
