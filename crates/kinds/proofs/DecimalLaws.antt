-- What the readers of numbers and lists accept is what their words spell by their bytes alone. Assumes nothing.
use mathlib.Core.Path.{◌≡◌, refl, sym, ap, ◌∙◌}
use mathlib.Core.Bool.{Bool, true, false, not, ◌&&◌, ◌||◌, cond}
use mathlib.Core.Logic.{◌⊎◌, inl, inr}
use mathlib.Core.List.{List, [], ◌∷◌, ◌++◌, map, append_assoc}
use Prim.Native.Nat.{ℕ, suc, ◌+◌, ◌-◌, ◌*◌, ◌/◌, ◌%◌, ◌≤◌, ◌<◌}
use native.Mathlib.Omega.{arith}
use lib.ListN.{length, take, length-append, length-map}
use lib.Seq.{take-append_seam}
use lib.Dec.{leb, eqb}
use borrow.Author.Tests.{leb-true, eqb-true, eqb-false, eq-eqb, ne_eqb, not-true}
use Rattle.ledger.specs.declared.Reason.TheVariants.{NumberMisspelt, NumberOutOfRange, ListLength}
use Rattle.text.specs.declared.Class.TheVariants.{Digit, Item}
use Rattle.text.specs.Scan.{is_in, run, end_of}
use Rattle.text.specs.Pieces.{onto, pieces_of, joined}
use Rattle.text.proofs.Laws.{either, more_ones}
use Rattle.text.proofs.TextLaws.{All, both}
use Rattle.text.proofs.PieceLaws.{pieces_last}
use Rattle.ledger.specs.Refusals.{require, fault_at}
use Rattle.numbers.specs.Numbers.{well_spelt, value_from, value, number_of}
use Rattle.numbers.specs.Ranges.{Between, between_none, between_more}
use Rattle.numbers.specs.Lists.{items_of, or_item, test_items, last_byte, open_end, then_count, list_end, list_of, values_of}
use Rattle.numbers.proofs.NumberLaws.{value_from_le}
use Rattle.numbers.proofs.DigitLaws.{digit_range}
use Rattle.writing.specs.Digits.{digits, list_text}
use Rattle.writing.proofs.DigitLaws.{Most, digits_small, digits_large, some_digits, number_digits, value_digits, digits_items}
use Rattle.writing.proofs.ListLaws.{items_join, list_items}
use Rattle.kinds.specs.SpeltAs.{Decimal, parted, Listed}
use Rattle.std.specs.Prelude.{Ok, Err, Result}
use Rattle.ledger.specs.declared.Fault.{Fault}

-- ---- numbers
-- digits after a number that is not 0 are those of the longer number
digits_on : (acc : ℕ) (w : List ℕ) → 1 ≤ acc → All Digit w → value_from acc w < Most → digits (value_from acc w) ≡ digits acc ++ w
unfolding value_from run
digits_on acc [] h a l = sym (append_nil (digits acc))
  where
    append_nil : (xs : List ℕ) → xs ++ [] ≡ xs
    append_nil [] = refl
    append_nil (x ∷ xs) = ap (λ (k : List ℕ). x ∷ k) (append_nil xs)
digits_on acc (b ∷ w) h a l =
    let m = more_ones (is_in Digit b) (run Digit w) (length w) a in
    let r = digit_range b m.0 in
    let next = acc * 10 + (b - 48) in
    let small : next < Most = omega (arith, value_from_le next w) in
    let tens : next / 10 ≡ acc = omega arith in
    let ones : 48 + next % 10 ≡ b = omega arith in
    digits_on next w (omega arith) m.1 l
    ∙ ap (λ (k : List ℕ). k ++ w) (digits_large next (omega arith) small ∙ ap (λ (k : ℕ). digits k ++ ((48 + next % 10) ∷ [])) tens ∙ ap (λ (k : ℕ). digits acc ++ (k ∷ [])) ones)
    ∙ append_assoc (digits acc) (b ∷ []) w

-- a well-spelt word is the digits of its value
well_spelt_digits : (w : List ℕ) → well_spelt w ≡ true → value w < Most → w ≡ digits (value w)
unfolding well_spelt end_of value value_from run
well_spelt_digits [] h l = absurd (let z : ◌≡◌ {A = Bool} false true = h in let o : ◌≡◌ {A = ℕ} 0 1 = cc in omega arith)
well_spelt_digits (b ∷ w) h l =
    let s = both (not (eqb (suc (length w)) 0)) _ h in
    let p = both (eqb (0 + run Digit (b ∷ w)) (suc (length w))) _ s.1 in
    let e : run Digit (b ∷ w) ≡ suc (length w) = omega (arith, eqb-true (0 + run Digit (b ∷ w)) (suc (length w)) p.0) in
    let m = more_ones (is_in Digit b) (run Digit w) (length w) e in
    let r = digit_range b m.0 in
    let z : 0 + (b - 48) ≡ b - 48 = omega arith in
    rw z (go w m.1 (rw z at l) p.1 r.0 r.1)
  where
    go : (w : List ℕ) → All Digit w → value_from (b - 48) w < Most → (eqb (suc (length w)) 1 || not (eqb b 48)) ≡ true → 48 ≤ b → b ≤ 57 → b ∷ w ≡ digits (value_from (b - 48) w)
    go [] a l k low high =
        let e : 48 + (b - 48) ≡ b = omega arith in
        sym (digits_small (b - 48) (omega arith) ∙ ap (λ (x : ℕ). x ∷ []) e)
    go (x ∷ w) a l k low high =
        let q : not (eqb b 48) ≡ true = rw (ne_eqb (suc (suc (length w))) 1 (λ d. omega arith)) at k in
        let n : b ≡ 48 → ⊥ = eqb-false b 48 (not-true (eqb b 48) q) in
        let e : 48 + (b - 48) ≡ b = omega arith in
        let some : 1 ≤ b - 48 = above n in
        sym (digits_on (b - 48) (x ∷ w) some a l ∙ ap (λ (y : List ℕ). y ++ (x ∷ w)) (digits_small (b - 48) (omega arith) ∙ ap (λ (y : ℕ). y ∷ []) e))
      where
        above : (b ≡ 48 → ⊥) → 1 ≤ b - 48
        above n = either b 48 _ (λ q. absurd (n (omega arith))) (λ q. omega arith)

pub number_as : (least most v : ℕ) (w : List ℕ) → most < Most → number_of least most w ≡ Ok v → Decimal least most w v
unfolding number_of
number_as least most v w l h = go (well_spelt w) (leb least (value w)) (leb (value w) most) refl refl refl h
  where
    go : (t u x : Bool) → well_spelt w ≡ t → leb least (value w) ≡ u → leb (value w) most ≡ x → require t (Err (fault_at NumberMisspelt 0)) (require (u && x) (Err (fault_at NumberOutOfRange 0)) (Ok (value w))) ≡ Ok v → Decimal least most w v
    go false u x p q r k = absurd (let o : ◌≡◌ {A = ℕ} 0 1 = cc in omega arith)
    go true false x p q r k = absurd (let o : ◌≡◌ {A = ℕ} 0 1 = cc in omega arith)
    go true true false p q r k = absurd (let o : ◌≡◌ {A = ℕ} 0 1 = cc in omega arith)
    go true true true p q r k =
        let e : value w ≡ v = cc in
        let low = leb-true least (value w) q in
        let high = leb-true (value w) most r in
        record { low = omega arith; high = omega arith; word = well_spelt_digits w p (omega arith) ∙ ap digits e }

pub as_number : (least most v : ℕ) (w : List ℕ) → most < Most → Decimal least most w v → number_of least most w ≡ Ok v
as_number least most v w l d = rw d.word (number_digits least most v d.low d.high (omega (arith, d.high)))

-- ---- lists: words with a comma after each
closed : List (List ℕ) → List ℕ
closed [] = []
closed (x ∷ xs) = x ++ (44 ∷ closed xs)

closed_joined : (x : List ℕ) (xs : List (List ℕ)) → closed (x ∷ xs) ≡ joined 44 (x ∷ xs) ++ (44 ∷ [])
unfolding closed joined
closed_joined x [] = refl
closed_joined x (y ∷ xs) = ap (λ (k : List ℕ). x ++ (44 ∷ k)) (closed_joined y xs) ∙ sym (append_assoc x (44 ∷ joined 44 (y ∷ xs)) (44 ∷ []))

-- bytes are their pieces with a comma after each, but for the last comma
whole : (w : List ℕ) → (w ≡ closed (pieces_of Item w)) ⊎ (w ++ (44 ∷ []) ≡ closed (pieces_of Item w))
unfolding pieces_of closed
whole [] = inl refl
whole (b ∷ w) = go (eqb b 44) (pieces_of Item w) refl (whole w)
  where
    onto_some : (xs : List (List ℕ)) → (w ≡ closed xs) ⊎ (w ++ (44 ∷ []) ≡ closed xs) → (b ∷ w ≡ closed (onto b xs)) ⊎ ((b ∷ w) ++ (44 ∷ []) ≡ closed (onto b xs))
    onto_some [] (inl e) = inr (ap (λ (k : List ℕ). b ∷ (k ++ (44 ∷ []))) e)
    onto_some [] (inr e) = absurd (omega (arith, length-append w (44 ∷ []), ap length e))
    onto_some (x ∷ xs) (inl e) = inl (ap (λ (k : List ℕ). b ∷ k) e)
    onto_some (x ∷ xs) (inr e) = inr (ap (λ (k : List ℕ). b ∷ k) e)

    go : (t : Bool) (xs : List (List ℕ)) → eqb b 44 ≡ t → (w ≡ closed xs) ⊎ (w ++ (44 ∷ []) ≡ closed xs)
        → (b ∷ w ≡ closed (cond (not t) (onto b xs) ([] ∷ xs))) ⊎ ((b ∷ w) ++ (44 ∷ []) ≡ closed (cond (not t) (onto b xs) ([] ∷ xs)))
    go false xs e h = onto_some xs h
    go true xs e (inl h) = inl (rw (eqb-true b 44 e) (ap (λ (k : List ℕ). 44 ∷ k) h))
    go true xs e (inr h) = inr (rw (eqb-true b 44 e) (ap (λ (k : List ℕ). 44 ∷ k) h))

-- so nonempty bytes are their pieces parted by commas, with one comma more or not
last_off : (a : ℕ) (xs ys : List ℕ) → xs ++ (a ∷ []) ≡ ys ++ (a ∷ []) → xs ≡ ys
last_off a xs ys e =
    let l : length xs ≡ length ys = omega (arith, length-append xs (a ∷ []), length-append ys (a ∷ []), ap length e) in
    sym (take-append_seam xs (a ∷ [])) ∙ ap (take (length xs)) e ∙ ap (λ (n : ℕ). take n (ys ++ (a ∷ []))) l ∙ take-append_seam ys (a ∷ [])

parted_whole : (w : List ℕ) → 0 < length w → (w ≡ joined 44 (pieces_of Item w)) ⊎ (w ≡ joined 44 (pieces_of Item w) ++ (44 ∷ []))
unfolding closed
parted_whole w h = go (pieces_of Item w) (whole w)
  where
    go : (xs : List (List ℕ)) → (w ≡ closed xs) ⊎ (w ++ (44 ∷ []) ≡ closed xs) → (w ≡ joined 44 xs) ⊎ (w ≡ joined 44 xs ++ (44 ∷ []))
    go [] (inl e) = absurd (omega (arith, ap length e))
    go [] (inr e) = absurd (omega (arith, length-append w (44 ∷ []), ap length e))
    go (x ∷ xs) (inl e) = inr (e ∙ closed_joined x xs)
    go (x ∷ xs) (inr e) = inl (last_off 44 w (joined 44 (x ∷ xs)) (e ∙ closed_joined x xs))

-- the items of numbers parted by commas are their digits
parted_items : (v : ℕ) (us : List ℕ) → items_of (parted (v ∷ us)) ≡ map digits (v ∷ us)
unfolding joined items_of
parted_items v [] = only (digits v) (some_digits v) (digits_items v)
  where
    only : (xs : List ℕ) → 0 < length xs → All Item xs → pieces_of Item xs ≡ xs ∷ []
    only [] h k = absurd (omega arith)
    only (x ∷ xs) h k = pieces_last Item x xs k
parted_items v (u ∷ us) = items_join (digits v) (parted (u ∷ us)) (digits_items v) ∙ ap (λ (k : List (List ℕ)). digits v ∷ k) (parted_items u us)

pub parted_closed : (v : ℕ) (us : List ℕ) → parted (v ∷ us) ++ (44 ∷ []) ≡ list_text (v ∷ us)
unfolding joined list_text
parted_closed v [] = refl
parted_closed v (u ∷ us) = append_assoc (digits v) (44 ∷ parted (u ∷ us)) (44 ∷ []) ∙ ap (λ (k : List ℕ). digits v ++ (44 ∷ k)) (parted_closed u us)

-- the items that a reader finds good are the digits of their values
pub record Good (least most n m : ℕ) (xs : List (List ℕ)) : Type 0 where
  pub words : xs ≡ map digits (map value xs)
  pub range : Between least most (map value xs)
  pub count : m ≡ n + length xs

items_as : (least most n at m : ℕ) (xs : List (List ℕ)) → most < Most → test_items least most n at xs ≡ Ok m → Good least most n m xs
unfolding test_items
items_as least most n at m [] l h = record { words = refl; range = between_none; count = let e : n ≡ m = cc in omega arith }
items_as least most n at m (x ∷ xs) l h = go (number_of least most x) refl h (items_as least most (n + 1) (at + length x + 1) m xs l)
  where
    go : (y : Result ℕ Fault) → number_of least most x ≡ y → or_item y at (test_items least most (n + 1) (at + length x + 1) xs) ≡ Ok m
        → (test_items least most (n + 1) (at + length x + 1) xs ≡ Ok m → Good least most (n + 1) m xs) → Good least most n m (x ∷ xs)
    go (Err bad) e k rec = absurd (let o : ◌≡◌ {A = ℕ} 0 1 = cc in omega arith)
    go (Ok v) e k rec =
        let g = rec k in
        let d = number_as least most v x l e in
        let z : value x ≡ v = ap value d.word ∙ value_digits v (omega (arith, d.high)) in
        let c = g.count in
        record {
          words = λ i. (d.word ∙ ap digits (sym z)) i ∷ g.words i;
          range = between_more {v = value x} (omega (arith, d.low)) (omega (arith, d.high)) g.range;
          count = omega arith;
        }

-- and numbers in their range are found good
as_items : (least most n at : ℕ) (us : List ℕ) → most < Most → Between least most us → test_items least most n at (map digits us) ≡ Ok (n + length us)
unfolding test_items
as_items least most n at [] l between_none = ap Ok (omega arith)
as_items least most n at (v ∷ us) l (between_more low high t) =
    let e : n + 1 + length us ≡ n + suc (length us) = omega arith in
    rw (number_digits least most v low high (omega arith)) (as_items least most (n + 1) (at + length (digits v) + 1) us l t ∙ ap Ok e)

-- ---- a list that is read
pub record Read (least most : ℕ) (comma : Bool) (n m : ℕ) (w : List ℕ) : Type 0 where
  pub items : Good least most 0 m (items_of w)
  pub shut : open_end comma w ≡ false
  pub count : m ≡ n

pub list_read : (least most : ℕ) (comma : Bool) (n m : ℕ) (w : List ℕ) → most < Most → list_of least most comma n w ≡ Ok m → Read least most comma n m w
unfolding list_of list_end
list_read least most comma n m w l h = go (test_items least most 0 0 (items_of w)) refl h
  where
    inner : (y : ℕ) (t u : Bool) → test_items least most 0 0 (items_of w) ≡ Ok y → open_end comma w ≡ t → eqb y n ≡ u → require (not t) (Err (fault_at NumberMisspelt (length w))) (require u (Err (fault_at ListLength 0)) (Ok y)) ≡ Ok m → Read least most comma n m w
    inner y true u e p q k = absurd (let o : ◌≡◌ {A = ℕ} 0 1 = cc in omega arith)
    inner y false false e p q k = absurd (let o : ◌≡◌ {A = ℕ} 0 1 = cc in omega arith)
    inner y false true e p q k =
        let z : y ≡ m = cc in
        record { items = items_as least most 0 0 m (items_of w) l (e ∙ ap Ok z); shut = p; count = sym z ∙ eqb-true y n q }

    go : (x : Result ℕ Fault) → test_items least most 0 0 (items_of w) ≡ x → then_count x (λ y. require (not (open_end comma w)) (Err (fault_at NumberMisspelt (length w))) (require (eqb y n) (Err (fault_at ListLength 0)) (Ok y))) ≡ Ok m → Read least most comma n m w
    go (Err bad) e k = absurd (let o : ◌≡◌ {A = ℕ} 0 1 = cc in omega arith)
    go (Ok y) e k = inner y (open_end comma w) (eqb y n) e refl refl k

-- where an end is not open, there is a byte, and the last one is a comma only where one is allowed
pub not_open : (comma : Bool) (w : List ℕ) → open_end comma w ≡ false → (0 < length w) × (comma ≡ false → eqb (last_byte 0 w) 44 ≡ false)
unfolding open_end
not_open comma w h = go (eqb (length w) 0) comma refl h
  where
    some : eqb (length w) 0 ≡ false → 0 < length w
    some e = either 1 (length w) _ (λ q. q) (λ q. absurd (eqb-false (length w) 0 e (omega arith)))

    go : (t u : Bool) → eqb (length w) 0 ≡ t → (t || (not u && eqb (last_byte 0 w) 44)) ≡ false → (0 < length w) × (u ≡ false → eqb (last_byte 0 w) 44 ≡ false)
    go true u e k = absurd (let z : ◌≡◌ {A = Bool} true false = k in let o : ◌≡◌ {A = ℕ} 0 1 = cc in omega arith)
    go false true e k = (some e, λ q. absurd (let o : ◌≡◌ {A = ℕ} 0 1 = cc in omega arith))
    go false false e k = (some e, λ q. k)

some_piece : (w : List ℕ) → 0 < length w → 0 < length (pieces_of Item w)
unfolding pieces_of
some_piece [] h = absurd (omega arith)
some_piece (b ∷ w) h = go (is_in Item b) (pieces_of Item w)
  where
    go : (t : Bool) (xs : List (List ℕ)) → 0 < length (cond t (onto b xs) ([] ∷ xs))
    go true [] = omega arith
    go true (x ∷ xs) = omega arith
    go false xs = omega arith

-- its numbers
module _ (least most : ℕ) (comma : Bool) (n m : ℕ) (w : List ℕ) (r : Read least most comma n m w) where
  pub numbers_in_lem : Between least most (values_of w)
  unfolding values_of
  numbers_in_lem = r.items.range

  pub numbers_count : length (values_of w) ≡ n
  unfolding values_of
  numbers_count = let c = r.items.count in let e = r.count in omega (arith, length-map (items_of w) value)

  pub numbers_some : 1 ≤ length (values_of w)
  unfolding values_of items_of
  numbers_some = omega (arith, length-map (pieces_of Item w) value, some_piece w (not_open comma w r.shut).0)

  pub numbers_word : (w ≡ parted (values_of w)) ⊎ (w ≡ parted (values_of w) ++ (44 ∷ []))
  unfolding values_of items_of
  numbers_word = rw r.items.words at (parted_whole w (not_open comma w r.shut).0)

-- A LIST IS READ EXACTLY WHEN ITS WORD SPELLS IT, one comma more allowed
pub list_as : (least most n m : ℕ) (w : List ℕ) → most < Most → list_of least most true n w ≡ Ok m → Listed least most n w (values_of w) × (m ≡ n)
list_as least most n m w l h =
    let r = list_read least most true n m w l h in (
      record {
        some = numbers_some least most true n m w r;
        count = numbers_count least most true n m w r;
        range = numbers_in_lem least most true n m w r;
        word = numbers_word least most true n m w r;
      },
      r.count,
    )

parted_some : (v : ℕ) (us : List ℕ) → 0 < length (parted (v ∷ us))
unfolding joined
parted_some v [] = some_digits v
parted_some v (u ∷ us) = rw length-append (omega arith)

-- the items of a word that spells a list, and that it has a byte
listed_items : (w us : List ℕ) → 1 ≤ length us → (w ≡ parted us) ⊎ (w ≡ parted us ++ (44 ∷ [])) → (items_of w ≡ map digits us) × (0 < length w)
listed_items w [] some e = absurd (omega arith)
listed_items w (v ∷ us) some (inl e) = (ap items_of e ∙ parted_items v us, rw e (parted_some v us))
listed_items w (v ∷ us) some (inr e) = (ap items_of (e ∙ parted_closed v us) ∙ list_items (v ∷ us), rw e (rw length-append (omega arith)))

pub values_listed : (least most : ℕ) (us : List ℕ) → most < Most → Between least most us → map value (map digits us) ≡ us
values_listed least most [] l between_none = refl
values_listed least most (v ∷ us) l (between_more low high t) = λ i. value_digits v (omega arith) i ∷ values_listed least most us l t i

-- where its end is not open
pub as_shut : (least most : ℕ) (comma : Bool) (n : ℕ) (w us : List ℕ) → most < Most → Listed least most n w us → open_end comma w ≡ false → (list_of least most comma n w ≡ Ok n) × (us ≡ values_of w)
unfolding list_of list_end values_of
as_shut least most comma n w us l d shut =
    let k = listed_items w us d.some d.word in
    let e : 0 + length us ≡ n = omega (arith, d.count) in
    (rw (k.0, as_items least most 0 0 us l d.range, e, shut, eq-eqb n n refl), rw k.0 (sym (values_listed least most us l d.range)))

pub as_list : (least most n : ℕ) (w us : List ℕ) → most < Most → Listed least most n w us → (list_of least most true n w ≡ Ok n) × (us ≡ values_of w)
unfolding open_end
as_list least most n w us l d =
    as_shut least most true n w us l d (rw (ne_eqb (length w) 0 (λ q. omega (arith, (listed_items w us d.some d.word).1))))
