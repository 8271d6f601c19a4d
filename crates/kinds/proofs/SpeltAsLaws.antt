-- What a column's reader accepts is what its word spells by its bytes alone, kind by kind. Assumes nothing.
use mathlib.Core.Path.{◌≡◌, refl, sym, ap, subst, ◌∙◌}
use mathlib.Core.Bool.{Bool, true, false, ◌&&◌, ◌||◌, cond}
use mathlib.Core.Logic.{◌⊎◌, inl, inr}
use mathlib.Core.List.{List, [], ◌∷◌, ◌++◌}
use Prim.Native.Nat.{ℕ, suc, ◌<◌}
use native.Mathlib.Omega.{arith}
use lib.ListN.{length, get_or, length-append}
use lib.Dec.{leb, eqb}
use borrow.Author.Tests.{le-leb, leb-true, eq-eqb, eqb-true, eqb-false, ne_eqb, not-true}
use Rattle.ledger.specs.Limits.{name_limit, colour_limit}
use Rattle.text.specs.declared.Class.TheVariants.{Item}
use Rattle.text.specs.Scan.{is_in, run}
use Rattle.text.specs.Pieces.{joined}
use Rattle.text.proofs.Laws.{more_ones}
use Rattle.text.proofs.TextLaws.{All, both}
use Rattle.numbers.specs.Ranges.{Between}
use Rattle.numbers.specs.Lists.{last_byte, open_end, then_count, list_of, values_of}
use Rattle.writing.specs.Digits.{digits}
use Rattle.writing.proofs.DigitLaws.{some_digits, digits_items}
use Rattle.kinds.specs.declared.Range.TheVariants.{BlockCount}
use Rattle.kinds.specs.declared.Kind.{Kind}
use Rattle.kinds.specs.declared.Kind.TheVariants.{Name, Number, Count, Items, Stranded, Word, Colour}
use Rattle.kinds.specs.Kinds.{least_of, most_of, fixed_text, is_strand, same_bytes, packed, whole_of, name_of, strand_of, fixed_of, colour_of, spelt}
use Rattle.kinds.specs.SpeltAs.{parted, Letter, Mixed, SpeltAs}
use Rattle.kinds.proofs.BackLaws.{most_small}
use Rattle.kinds.proofs.DecimalLaws.{number_as, as_number, list_read, not_open, numbers_in_lem, numbers_count, numbers_word, list_as, as_shut, as_list}
use Rattle.std.specs.Prelude.{Ok, Err, Result}
use Rattle.ledger.specs.declared.Fault.{Fault}

-- a word that is good as a whole
whole_as : (t : Bool) (u v : ℕ) → whole_of t u ≡ Ok v → (t ≡ true) × (u ≡ v)
whole_as true u v h = (refl, cc)
whole_as false u v h = absurd (let o : ◌≡◌ {A = ℕ} 0 1 = cc in omega arith)

same_as : (xs ys : List ℕ) → same_bytes xs ys ≡ true → xs ≡ ys
unfolding same_bytes
same_as [] [] h = refl
same_as [] (y ∷ ys) h = absurd (let o : ◌≡◌ {A = ℕ} 0 1 = cc in omega arith)
same_as (x ∷ xs) [] h = absurd (let o : ◌≡◌ {A = ℕ} 0 1 = cc in omega arith)
same_as (x ∷ xs) (y ∷ ys) h = let p = both (eqb x y) (same_bytes xs ys) h in λ i. eqb-true x y p.0 i ∷ same_as xs ys p.1 i

as_same : (xs : List ℕ) → same_bytes xs xs ≡ true
unfolding same_bytes
as_same [] = refl
as_same (x ∷ xs) = rw (eq-eqb x x refl) (as_same xs)

-- a strand's word is its letter
one_byte : (w : List ℕ) → length w ≡ 1 → w ≡ get_or w 0 0 ∷ []
one_byte [] h = absurd (omega arith)
one_byte (b ∷ []) h = refl
one_byte (b ∷ c ∷ w) h = absurd (omega arith)

letter_as : (dot : Bool) (v : ℕ) → (eqb v 43 || (eqb v 45 || (dot && eqb v 46))) ≡ true → Letter dot v
letter_as dot v h = go (eqb v 43) (eqb v 45) dot (eqb v 46) refl refl refl refl h
  where
    go : (x y z u : Bool) → eqb v 43 ≡ x → eqb v 45 ≡ y → dot ≡ z → eqb v 46 ≡ u → (x || (y || (z && u))) ≡ true → Letter dot v
    go true y z u e f g o k = inl (eqb-true v 43 e)
    go false true z u e f g o k = inr (inl (eqb-true v 45 f))
    go false false true true e f g o k = inr (inr (g, eqb-true v 46 o))
    go false false true false e f g o k = absurd (let q : ◌≡◌ {A = ℕ} 0 1 = cc in omega arith)
    go false false false u e f g o k = absurd (let q : ◌≡◌ {A = ℕ} 0 1 = cc in omega arith)

as_letter : (dot : Bool) (v : ℕ) → Letter dot v → is_strand dot (v ∷ []) ≡ true
as_letter dot v (inl e) = rw e
as_letter dot v (inr (inl e)) = rw e
as_letter dot v (inr (inr e)) = rw (e.1, e.0)

strand_as : (dot : Bool) (v : ℕ) (w : List ℕ) → strand_of dot w ≡ Ok v → (w ≡ v ∷ []) × Letter dot v
unfolding strand_of
strand_as dot v w h =
    let p = whole_as (is_strand dot w) (get_or w 0 0) v h in
    let q = both (eqb (length w) 1) _ p.0 in
    let e = one_byte w (eqb-true (length w) 1 q.0) in
    (e ∙ ap (λ (b : ℕ). b ∷ []) p.1, rw p.1 at (letter_as dot (get_or w 0 0) q.1))

as_strand : (dot : Bool) (v : ℕ) (w : List ℕ) → w ≡ v ∷ [] → Letter dot v → strand_of dot w ≡ Ok v
unfolding strand_of
as_strand dot v w e l = rw (e, as_letter dot v l)

-- ---- a colour: its last byte is no comma
pub last_append : (d : ℕ) (xs : List ℕ) (y : ℕ) (ys : List ℕ) → last_byte d (xs ++ (y ∷ ys)) ≡ last_byte y ys
unfolding last_byte
last_append d [] y ys = refl
last_append d (x ∷ xs) y ys = last_append x xs y ys

pub last_item : (d : ℕ) (xs : List ℕ) → 0 < length xs → All Item xs → is_in Item (last_byte d xs) ≡ true
unfolding last_byte run
last_item d [] h a = absurd (omega arith)
last_item d (x ∷ []) h a = (more_ones (is_in Item x) 0 0 a).0
last_item d (x ∷ y ∷ xs) h a = last_item x (y ∷ xs) (omega arith) (more_ones (is_in Item x) (run Item (y ∷ xs)) (suc (length xs)) a).1

three : (us : List ℕ) → length us ≡ 3 → us ≡ get_or us 0 0 ∷ get_or us 1 0 ∷ get_or us 2 0 ∷ []
three [] h = absurd (omega arith)
three (a ∷ []) h = absurd (omega arith)
three (a ∷ b ∷ []) h = absurd (omega arith)
three (a ∷ b ∷ c ∷ []) h = refl
three (a ∷ b ∷ c ∷ d ∷ us) h = absurd (omega arith)

no_comma : (w us : List ℕ) → eqb (last_byte 0 w) 44 ≡ false → (w ≡ parted us) ⊎ (w ≡ parted us ++ (44 ∷ [])) → w ≡ parted us
no_comma w us h (inl e) = e
no_comma w us h (inr e) = absurd (eqb-false (last_byte 0 w) 44 h (ap (last_byte 0) e ∙ last_append 0 (parted us) 44 [] ∙ last_none))
  where
    last_none : last_byte 44 [] ≡ 44
    last_none = unfold last_byte in refl

colour_as : (v : ℕ) (w : List ℕ) → colour_of w ≡ Ok v → ((w ≡ 48 ∷ []) × (v ≡ 0)) ⊎ Mixed w v
unfolding colour_of
colour_as v w h = go (same_bytes w (48 ∷ [])) (list_of 0 colour_limit false 3 w) refl refl h
  where
    mixed : (m : ℕ) → list_of 0 colour_limit false 3 w ≡ Ok m → packed (get_or (values_of w) 0 0) (get_or (values_of w) 1 0) (get_or (values_of w) 2 0) ≡ v → Mixed w v
    mixed m e q =
        let r = list_read 0 colour_limit false 3 m w (omega arith) e in
        let t = three (values_of w) (numbers_count 0 colour_limit false 3 m w r) in
        let word = no_comma w (values_of w) ((not_open false w r.shut).1 refl) (numbers_word 0 colour_limit false 3 m w r) in
        record {
          red = get_or (values_of w) 0 0;
          green = get_or (values_of w) 1 0;
          blue = get_or (values_of w) 2 0;
          range = subst (λ (us : List ℕ). Between 0 colour_limit us) t (numbers_in_lem 0 colour_limit false 3 m w r);
          word = word ∙ ap parted t;
          value = sym q;
        }

    go : (t : Bool) (x : Result ℕ Fault) → same_bytes w (48 ∷ []) ≡ t → list_of 0 colour_limit false 3 w ≡ x
        → cond t (Ok 0) (then_count x (λ m. Ok (packed (get_or (values_of w) 0 0) (get_or (values_of w) 1 0) (get_or (values_of w) 2 0)))) ≡ Ok v → ((w ≡ 48 ∷ []) × (v ≡ 0)) ⊎ Mixed w v
    go true x e f k = inl (same_as w (48 ∷ []) e, let z : 0 ≡ v = cc in sym z)
    go false (Err bad) e f k = absurd (let o : ◌≡◌ {A = ℕ} 0 1 = cc in omega arith)
    go false (Ok m) e f k = inr (mixed m f (cc))

as_mixed : (v : ℕ) (w : List ℕ) → Mixed w v → colour_of w ≡ Ok v
unfolding colour_of open_end joined
as_mixed v w m =
    let us = m.red ∷ m.green ∷ m.blue ∷ [] in
    let long : 1 < length w = rw (m.word, length-append) (omega (arith, length-append (digits m.green) (44 ∷ digits m.blue), some_digits m.red)) in
    let last : last_byte 0 w ≡ last_byte 44 (digits m.blue)
    = ap (last_byte 0) m.word ∙ last_append 0 (digits m.red) 44 (digits m.green ++ (44 ∷ digits m.blue)) ∙ last_append 44 (digits m.green) 44 (digits m.blue) in
    let item = last_item 44 (digits m.blue) (some_digits m.blue) (digits_items m.blue) in
    let shut : open_end false w ≡ false = rw (ne_eqb (length w) 0 (λ q. omega arith), last, not-true (eqb (last_byte 44 (digits m.blue)) 44) item) in
    let r = as_shut 0 colour_limit false 3 w us (omega arith) (record { some = omega arith; count = refl; range = m.range; word = inl m.word }) shut in
    rw (differs w long, r.0, ← r.1, m.value)
  where
    differs : (w : List ℕ) → 1 < length w → same_bytes w (48 ∷ []) ≡ false
    differs w h = go (same_bytes w (48 ∷ [])) refl
      where
        go : (t : Bool) → same_bytes w (48 ∷ []) ≡ t → t ≡ false
        go true e = absurd (omega (arith, ap length (same_as w (48 ∷ []) e)))
        go false e = refl

-- ---- EACH KIND
abbrev pub numbers_in : Kind → List ℕ → List ℕ
numbers_in Name w = []
numbers_in (Number r) w = []
numbers_in Count w = []
numbers_in (Items r) w = values_of w
numbers_in (Stranded dot) w = []
numbers_in (Word f) w = []
numbers_in Colour w = []

pub spelt_as : (k : Kind) (n v : ℕ) (w : List ℕ) → spelt k n w ≡ Ok v → SpeltAs k n w v (numbers_in k w)
unfolding spelt name_of fixed_of
spelt_as Name n v w h =
    let p = whole_as (leb 1 (length w) && leb (length w) name_limit) (length w) v h in
    let q = both (leb 1 (length w)) (leb (length w) name_limit) p.0 in
    (sym p.1, leb-true 1 (length w) q.0, leb-true (length w) name_limit q.1, refl)
spelt_as (Number r) n v w h = (number_as (least_of r) (most_of r) v w (most_small r) h, refl)
spelt_as Count n v w h = (number_as (least_of BlockCount) (most_of BlockCount) v w (omega arith) h, refl)
spelt_as (Items r) n v w h = list_as (least_of r) (most_of r) n v w (most_small r) h
spelt_as (Stranded dot) n v w h = let p = strand_as dot v w h in (p.0, p.1, refl)
spelt_as (Word f) n v w h = let p = whole_as (same_bytes w (fixed_text f)) 0 v h in (same_as w (fixed_text f) p.0, sym p.1, refl)
spelt_as Colour n v w h = (colour_as v w h, refl)

pub as_spelt : (k : Kind) (n v : ℕ) (w us : List ℕ) → SpeltAs k n w v us → (spelt k n w ≡ Ok v) × (us ≡ numbers_in k w)
unfolding spelt name_of fixed_of colour_of same_bytes
as_spelt Name n v w us p = (rw (le-leb 1 (length w) p.1, le-leb (length w) name_limit p.2, p.0), p.3)
as_spelt (Number r) n v w us p = (as_number (least_of r) (most_of r) v w (most_small r) p.0, p.1)
as_spelt Count n v w us p = (as_number (least_of BlockCount) (most_of BlockCount) v w (omega arith) p.0, p.1)
as_spelt (Items r) n v w us p = let q = as_list (least_of r) (most_of r) n w us (most_small r) p.0 in (q.0 ∙ ap Ok (sym p.1), q.1)
as_spelt (Stranded dot) n v w us p = (as_strand dot v w p.0 p.1, p.2)
as_spelt (Word f) n v w us p = (rw (p.0, p.1, as_same (fixed_text f)), p.2)
as_spelt Colour n v w us p = (go p.0, p.1)
  where
    go : ((w ≡ 48 ∷ []) × (v ≡ 0)) ⊎ Mixed w v → colour_of w ≡ Ok v
    go (inl e) = rw (e.0, e.1)
    go (inr m) = as_mixed v w m
