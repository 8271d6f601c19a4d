-- Laws of comma lists: the items from a place on, and what each item read adds to the values. Assumes nothing.
use mathlib.Core.Path.{◌≡◌, refl, sym, ap, ◌∙◌}
use mathlib.Core.Bool.{Bool, true, false, not, ◌&&◌, ◌||◌, cond}
use mathlib.Core.List.{List, [], ◌∷◌, map}
use Prim.Native.Nat.{ℕ, suc, ◌+◌, ◌-◌, ◌≤◌, ◌<◌, zero-le}
use native.Mathlib.Nat.{le_refl}
use native.Mathlib.Numerals.{add-one}
use native.Mathlib.Omega.{arith}
use lib.ListN.{length, take, drop, get_or, set, drop_of_length-le}
use lib.Seq.{sets}
use lib.Dec.{leb, eqb}
use borrow.Author.Tests.{eq-eqb, ne_eqb, eqb-true, leb-true}
use Rattle.ledger.specs.declared.Reason.TheVariants.{NumberMisspelt, NumberOutOfRange, ListLength}
use Rattle.text.specs.declared.Class.TheVariants.{Item}
use Rattle.text.specs.Scan.{end_of}
use Rattle.text.specs.Pieces.{pieces_of}
use Rattle.text.proofs.PieceLaws.{pieces_step}
use Rattle.numbers.specs.declared.Piece.{Piece}
use Rattle.numbers.specs.Numbers.{well_spelt, value, number_of}
use Rattle.numbers.specs.Lists.{items_of, test_items, good_values, or_stop, or_item, values_of, last_byte, open_end, list_end, list_of, PieceRead, ItemsStored, ListEnded, ListRead}
use Rattle.numbers.specs.Ranges.{Between, between_none, between_more}
use Rattle.numbers.proofs.DigitLaws.{part_length}
use Rattle.std.specs.Prelude.{Ok, Err, Result}
use Rattle.ledger.specs.declared.Fault.{Fault}
use Rattle.ledger.specs.Refusals.{fault_at}

pub last_none : (w : List ℕ) → length w ≡ 0 → 0 ≡ last_byte 0 w
unfolding last_byte
last_none [] h = refl
last_none (x ∷ w) h = absurd (omega arith)

last_at : (d : ℕ) (w : List ℕ) → (length w ≡ 0 → ⊥) → get_or w (length w - 1) 0 ≡ last_byte d w
unfolding last_byte
last_at d [] h = absurd (h refl)
last_at d (x ∷ []) h = refl
last_at d (x ∷ y ∷ w) h =
    let q : suc (suc (length w)) - 1 ≡ suc (length (y ∷ w) - 1) = omega arith in
    rw q (last_at x (y ∷ w) (λ e. omega arith))

pub last_is : (w : List ℕ) → (length w ≡ 0 → ⊥) → get_or w (length w - 1) 0 ≡ last_byte 0 w
last_is w h = last_at 0 w h

pub open_is : (comma : Bool) (w : List ℕ) (b : ℕ) → b ≡ last_byte 0 w → (eqb (length w) 0 || (not comma && eqb b 44)) ≡ open_end comma w
unfolding open_end
open_is comma w b e = rw e

-- a good number is its value
good_value : (b t : Bool) (v x : ℕ) → cond b (cond t (Ok x) (Err (fault_at NumberOutOfRange 0))) (Err (fault_at NumberMisspelt 0)) ≡ Ok v → x ≡ v
good_value true true v x e = cc
good_value true false v x e = cc
good_value false t v x e = cc

pub value_is : (least most : ℕ) (w : List ℕ) (v : ℕ) → number_of least most w ≡ Ok v → value w ≡ v
unfolding number_of
value_is least most w v e = good_value (well_spelt w) (leb least (value w) && leb (value w) most) v (value w) e

-- the items from a place on
pub items_step : (w : List ℕ) (i e : ℕ) → i < length w → e ≡ end_of Item w i → items_of (drop i w) ≡ take (e - i) (drop i w) ∷ items_of (drop (e + 1) w)
unfolding items_of
items_step w i e h p = pieces_step Item w i e h p

pub items_past : (w : List ℕ) (i : ℕ) → length w ≤ i → items_of (drop i w) ≡ []
unfolding items_of pieces_of
items_past w i h = rw (drop_of_length-le w h)

-- what an item spells that is found and read in one step
spelt_in : (least most : ℕ) (w : List ℕ) (i : ℕ) (x : Piece) → PieceRead least most w i x → x.spelt ≡ number_of least most (take (x.end - i) (drop i w))
spelt_in least most w i x is = rw is.ends is.is

module _ (least most : ℕ) (w : List ℕ) (i n : ℕ) (inv : test_items least most n i (items_of (drop i w)) ≡ test_items least most 0 0 (items_of w)) where
  pub list_done : length w ≤ i → Ok n ≡ test_items least most 0 0 (items_of w)
  unfolding test_items
  list_done h = rw (items_past w i h) at inv

  module _ (h : i < length w) (x : Piece) (is : PieceRead least most w i x) where
    pub list_bad : (bad : Fault) → x.spelt ≡ Err bad → Err (fault_at bad.reason i) ≡ test_items least most 0 0 (items_of w)
    unfolding test_items
    list_bad bad q = rw (items_step w i x.end h is.ends, ← (spelt_in least most w i x is), q) at inv

    pub list_more : (v : ℕ) → x.spelt ≡ Ok v → test_items least most (n + 1) (x.end + 1) (items_of (drop (x.end + 1) w)) ≡ test_items least most 0 0 (items_of w)
    unfolding test_items
    list_more v q =
        let p : x.end + 1 ≡ i + (x.end - i) + 1 = omega (arith, is.low) in
        rw p (rw (items_step w i x.end h is.ends, ← (spelt_in least most w i x is), q, part_length w i x.end is.high, p) at inv)

-- what is stored: the values from here on complete those of the whole list
module _ (least most : ℕ) (w before out : List ℕ) (i n : ℕ) (inv : sets out n (good_values least most (items_of (drop i w))) ≡ sets before 0 (good_values least most (items_of w))) where
  pub stored_done : length w ≤ i → out ≡ sets before 0 (good_values least most (items_of w))
  unfolding good_values
  stored_done h = rw (items_past w i h) at inv

  module _ (h : i < length w) (x : Piece) (is : PieceRead least most w i x) where
    pub stored_bad : (bad : Fault) → x.spelt ≡ Err bad → out ≡ sets before 0 (good_values least most (items_of w))
    unfolding good_values
    stored_bad bad q = rw (items_step w i x.end h is.ends, ← (spelt_in least most w i x is), q) at inv

    pub stored_more : (v : ℕ) (out' : List ℕ) → x.spelt ≡ Ok v → out' ≡ set out n v → sets out' (n + 1) (good_values least most (items_of (drop (x.end + 1) w))) ≡ sets before 0 (good_values least most (items_of w))
    unfolding good_values
    stored_more v out' q o = rw (o, add-one) (rw (items_step w i x.end h is.ends, ← (spelt_in least most w i x is), q) at inv)

-- the end of a list
module _ (comma : Bool) (n : ℕ) (w : List ℕ) (found : Result ℕ Fault) where
  pub end_bad : (bad : Fault) → found ≡ Err bad → ListEnded comma n w found (Err bad)
  unfolding list_end
  end_bad bad q = record { is = rw q; near = λ h. rw q at h }

  module _ (m : ℕ) (q : found ≡ Ok m) (t : Bool) (et : t ≡ open_end comma w) where
    pub end_open : t ≡ true → ListEnded comma n w found (Err (fault_at NumberMisspelt (length w)))
    unfolding list_end
    end_open h = record { is = rw (q, ← et, h); near = λ k. le_refl (length w) }

    pub end_count : t ≡ false → (m ≡ n → ⊥) → ListEnded comma n w found (Err (fault_at ListLength 0))
    unfolding list_end
    end_count h l = record { is = rw (q, ← et, h, ne_eqb m n l); near = λ k. zero-le }

    pub end_good : t ≡ false → m ≡ n → ListEnded comma n w found (Ok m)
    unfolding list_end
    end_good h l = record { is = rw (q, ← et, h, eq-eqb m n l); near = λ k. zero-le }

pub ruleset ends = (end_bad, end_open, end_count, end_good)

-- a list that ends well had good items, as many as the count says, and no empty one at the end
pub record Ended (comma : Bool) (n : ℕ) (w : List ℕ) (found : Result ℕ Fault) (m : ℕ) : Type 0 where
  pub items : found ≡ Ok m
  pub shut : open_end comma w ≡ false
  pub count : m ≡ n

ended : (comma : Bool) (n : ℕ) (w : List ℕ) (found : Result ℕ Fault) (m : ℕ) → list_end comma n w found ≡ Ok m → Ended comma n w found m
unfolding list_end
ended comma n w (Ok k) m e = go (open_end comma w) (eqb k n) refl refl e
  where
    go : (t u : Bool) → open_end comma w ≡ t → eqb k n ≡ u → cond (not t) (cond u (Ok k) (Err (fault_at ListLength 0))) (Err (fault_at NumberMisspelt (length w))) ≡ Ok m → Ended comma n w (Ok k) m
    go true u h l q = absurd (let z : ◌≡◌ {A = ℕ} 0 1 = cc in omega arith)
    go false true h l q = let x : k ≡ m = cc in record { items = q; shut = h; count = sym x ∙ eqb-true k n l }
    go false false h l q = absurd (let z : ◌≡◌ {A = ℕ} 0 1 = cc in omega arith)
ended comma n w (Err bad) m e = absurd (let z : ◌≡◌ {A = ℕ} 0 1 = cc in omega arith)

pub list_ended : (comma : Bool) (n : ℕ) (w : List ℕ) (found : Result ℕ Fault) (m : ℕ) → list_end comma n w found ≡ Ok m → Ended comma n w found m
list_ended comma n w found m e = ended comma n w found m e

-- where all items are good, their values are stored
good_all : (least most n at m : ℕ) (xs : List (List ℕ)) → test_items least most n at xs ≡ Ok m → good_values least most xs ≡ map value xs
unfolding test_items good_values
good_all least most n at m [] e = refl
good_all least most n at m (x ∷ xs) e = go (number_of least most x) refl (λ h. good_all least most (n + 1) (at + length x + 1) m xs h) e
  where
    go : (y : Result ℕ Fault) → number_of least most x ≡ y → (test_items least most (n + 1) (at + length x + 1) xs ≡ Ok m → good_values least most xs ≡ map value xs) → or_item y at (test_items least most (n + 1) (at + length x + 1) xs) ≡ Ok m → or_stop (number_of least most x) (good_values least most xs) ≡ value x ∷ map value xs
    go (Ok v) q k h = rw (q, value_is least most x v q, k h)
    go (Err bad) q k h = absurd (let z : ◌≡◌ {A = ℕ} 0 1 = cc in omega arith)

pub good_values_lem : (least most : ℕ) (w : List ℕ) (m : ℕ) → test_items least most 0 0 (items_of w) ≡ Ok m → good_values least most (items_of w) ≡ values_of w
unfolding values_of
good_values_lem least most w m e = good_all least most 0 0 m (items_of w) e

-- reading a list: the walk into no table, its end, and the walk into the table
module _ (least most : ℕ) (comma : Bool) (n : ℕ) (w b none none' : List ℕ) (found x : Result ℕ Fault) (walked : ItemsStored least most w none none' found) (end : ListEnded comma n w found x) where
  list_is : x ≡ list_of least most comma n w
  unfolding list_of
  list_is = rw (← walked.is) end.is

  pub read_bad : (bad : Fault) → x ≡ Err bad → ListRead least most comma n w b b (Err bad)
  read_bad bad q = record { is = sym q ∙ list_is; stored = refl; near = rw q at (end.near walked.near) }

  pub read_good : (m : ℕ) (b' : List ℕ) (r : Result ℕ Fault) → x ≡ Ok m → ItemsStored least most w b b' r → ListRead least most comma n w b b' r
  read_good m b' r q walk =
      let d = list_ended comma n w found m (sym end.is ∙ q) in
      let t : test_items least most 0 0 (items_of w) ≡ Ok m = sym walked.is ∙ d.items in
      let e : r ≡ Ok m = walk.is ∙ t in
      record { is = e ∙ sym q ∙ list_is; stored = rw e (walk.stored ∙ ap (sets b 0) (good_values_lem least most w m t)); near = walk.near }

-- a number that is spelt lies in its range
range_is : (least most v : ℕ) (s t u : Bool) → leb least v ≡ t → leb v most ≡ u → (x : ℕ) → cond s (cond (t && u) (Ok v) (Err (fault_at NumberOutOfRange 0))) (Err (fault_at NumberMisspelt 0)) ≡ Ok x → (least ≤ x) × (x ≤ most)
range_is least most v true true true e f x q = let h : v ≡ x = cc in (rw h at (leb-true least v e), rw h at (leb-true v most f))
range_is least most v true true false e f x q = absurd (let z : ◌≡◌ {A = ℕ} 0 1 = cc in omega arith)
range_is least most v true false u e f x q = absurd (let z : ◌≡◌ {A = ℕ} 0 1 = cc in omega arith)
range_is least most v false t u e f x q = absurd (let z : ◌≡◌ {A = ℕ} 0 1 = cc in omega arith)

pub number_range : (least most : ℕ) (w : List ℕ) (v : ℕ) → number_of least most w ≡ Ok v → (least ≤ v) × (v ≤ most)
unfolding number_of
number_range least most w v e = range_is least most (value w) (well_spelt w) (leb least (value w)) (leb (value w) most) refl refl v e

-- and so do the numbers of a list, which are as many as its items
items_range : (least most n at m : ℕ) (xs : List (List ℕ)) → test_items least most n at xs ≡ Ok m → Between least most (map value xs) × (n + length (map value xs) ≡ m)
unfolding test_items
items_range least most n at m [] e = (between_none, omega (arith, let q : n ≡ m = cc in q))
items_range least most n at m (x ∷ xs) e = go (number_of least most x) refl (λ h. items_range least most (n + 1) (at + length x + 1) m xs h) e
  where
    go : (y : Result ℕ Fault) → number_of least most x ≡ y → (test_items least most (n + 1) (at + length x + 1) xs ≡ Ok m → Between least most (map value xs) × (n + 1 + length (map value xs) ≡ m)) → or_item y at (test_items least most (n + 1) (at + length x + 1) xs) ≡ Ok m → Between least most (value x ∷ map value xs) × (n + suc (length (map value xs)) ≡ m)
    go (Ok v) q k h =
        let r = number_range least most x v q in
        let i : value x ≡ v = value_is least most x v q in
        let t = k h in
        (between_more {v = value x} (omega (arith, r.0)) (omega (arith, r.1)) t.0, omega (arith, t.1))
    go (Err bad) q k h = absurd (let z : ◌≡◌ {A = ℕ} 0 1 = cc in omega arith)

pub list_range : (least most : ℕ) (comma : Bool) (n : ℕ) (w : List ℕ) (m : ℕ) → list_of least most comma n w ≡ Ok m → Between least most (values_of w) × (length (values_of w) ≡ n) × (m ≡ n)
unfolding list_of values_of
list_range least most comma n w m e =
    let d = list_ended comma n w (test_items least most 0 0 (items_of w)) m e in
    let r = items_range least most 0 0 m (items_of w) d.items in
    (r.0, omega (arith, r.1, d.count), d.count)
