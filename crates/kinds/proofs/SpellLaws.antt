-- What each step of reading a word by its kind shows, on plain values. Assumes nothing.
use mathlib.Core.Path.{◌≡◌, refl, sym, ap, ◌∙◌}
use mathlib.Core.Bool.{Bool, true, false, ◌&&◌}
use mathlib.Core.List.{List, [], ◌∷◌, ◌++◌, append-nil}
use Prim.Native.Nat.{ℕ, suc, ◌+◌, ◌-◌, ◌%◌, ◌≤◌, zero-le, min}
use native.Mathlib.Omega.{arith}
use lib.ListN.{length, set, get_or, take, drop, length-take, length-drop, take-append-drop, drop_of_length-le, get_or-eq_default}
use lib.Seq.{sets, take_all}
use borrow.Rule.Slice.PartMut.{put_mid}
use lib.Pointwise.{pointwise}
use lib.Dec.{eqb, leb}
use Rattle.ledger.specs.Limits.{name_limit, colour_limit}
use Rattle.ledger.specs.declared.Reason.TheVariants.{BadWord}
use Rattle.text.proofs.Laws.{either}
use Rattle.numbers.specs.Spelling.{fault_in}
use Rattle.numbers.specs.Numbers.{number_of, NumberRead}
use Rattle.numbers.specs.Ranges.{Between, between_more}
use Rattle.numbers.specs.Lists.{items_of, values_of, good_values, list_of, ItemsStored, ListEnded, ListRead}
use Rattle.numbers.proofs.ListLaws.{list_range}
use Rattle.writing.proofs.PutLaws.{sets_out}
use Rattle.kinds.specs.declared.Range.{Range}
use Rattle.kinds.specs.declared.Range.TheVariants.{BlockCount}
use Rattle.kinds.specs.declared.Fixed.{Fixed}
use Rattle.kinds.specs.declared.Fixed.TheVariants as fixed
use Rattle.kinds.specs.declared.Kind.{Kind}
use Rattle.kinds.specs.declared.Kind.TheVariants.{Name, Number, Count, Items, Stranded, Word, Colour}
use Rattle.kinds.specs.Kinds.{least_of, most_of, fixed_text, is_strand, same_bytes, packed, colour_of, whole_of, name_of, strand_of, fixed_of, spelt, items_in, WordRead, Spelled}
use Rattle.std.specs.Prelude.{Ok, Err, Result}
use Rattle.ledger.specs.declared.Fault.{Fault}
use Rattle.ledger.specs.Refusals.{fault_at}

pub whole_good : (t : Bool) (v : ℕ) → t ≡ true → Ok v ≡ whole_of t v
whole_good t v e = rw e

pub whole_bad : (t : Bool) (v : ℕ) → t ≡ false → Err (fault_at BadWord 0) ≡ whole_of t v
whole_bad t v e = rw e

-- a word refused as a whole is refused at its first byte
whole_near : (t : Bool) (v n : ℕ) → fault_in (whole_of t v) ≤ n
whole_near true v n = zero-le
whole_near false v n = zero-le

whole_read : (t : Bool) (v : ℕ) (w : List ℕ) (r : Result ℕ Fault) → r ≡ whole_of t v → WordRead (whole_of t v) w r
whole_read t v w r e = record { is = e; near = rw e (whole_near t v (length w)) }

pub name_read : (w : List ℕ) (r : Result ℕ Fault) → r ≡ whole_of (leb 1 (length w) && leb (length w) name_limit) (length w) → WordRead (name_of w) w r
unfolding name_of
name_read w r e = whole_read (leb 1 (length w) && leb (length w) name_limit) (length w) w r e

pub strand_read : (dot : Bool) (w : List ℕ) (t : Bool) (v : ℕ) (r : Result ℕ Fault) → t ≡ is_strand dot w → v ≡ get_or w 0 0 → r ≡ whole_of t v → WordRead (strand_of dot w) w r
unfolding strand_of
strand_read dot w t v r et ev e = whole_read (is_strand dot w) (get_or w 0 0) w r (rw (et, ev) at e)

pub fixed_read : (f : Fixed) (w : List ℕ) (t : Bool) (r : Result ℕ Fault) → t ≡ same_bytes w (fixed_text f) → r ≡ whole_of t 0 → WordRead (fixed_of f w) w r
unfolding fixed_of
fixed_read f w t r et e = whole_read (same_bytes w (fixed_text f)) 0 w r (rw et at e)

pub ranged_read : (r : Range) (w : List ℕ) (low high : ℕ) (x : Result ℕ Fault) → low ≡ least_of r → high ≡ most_of r → NumberRead low high w x → WordRead (number_of (least_of r) (most_of r) w) w x
ranged_read r w low high x el eh h = record { is = rw (← el, ← eh) h.is; near = omega (arith, h.near) }

-- two words compared byte by byte
pub same_each : (a b : List ℕ) (r : Bool) → r ≡ pointwise eqb a b → r ≡ same_bytes a b
unfolding same_bytes
same_each [] [] r e = e
same_each [] (y ∷ b) r e = e
same_each (x ∷ a) [] r e = e
same_each (x ∷ a) (y ∷ b) r e = e ∙ ap (λ (t : Bool). eqb x y && t) (same_each a b (pointwise eqb a b) refl)

pub first_none : (w : List ℕ) → length w ≤ 0 → 0 ≡ get_or w 0 0
first_none w h = sym (get_or-eq_default w 0 h)

fixed_is : (f g : Fixed) (w : List ℕ) (t : Bool) → f ≡ g → t ≡ same_bytes w (fixed_text g) → t ≡ same_bytes w (fixed_text f)
fixed_is f g w t q e = rw q e

pub fixed_chain : (f : Fixed) (w : List ℕ) (t : Bool) → f ≡ fixed.Chain → t ≡ same_bytes w (fixed_text fixed.Chain) → t ≡ same_bytes w (fixed_text f)
fixed_chain f w t q e = fixed_is f fixed.Chain w t q e

pub fixed_plus : (f : Fixed) (w : List ℕ) (t : Bool) → f ≡ fixed.Plus → t ≡ same_bytes w (fixed_text fixed.Plus) → t ≡ same_bytes w (fixed_text f)
fixed_plus f w t q e = fixed_is f fixed.Plus w t q e

-- a colour: its three numbers are bytes, so that taking them as bytes changes nothing
three_small : (vs : List ℕ) → Between 0 colour_limit vs → length vs ≡ 3 → (get_or vs 0 0 ≤ colour_limit) × (get_or vs 1 0 ≤ colour_limit) × (get_or vs 2 0 ≤ colour_limit)
three_small [] h e = absurd (omega arith)
three_small (x ∷ []) h e = absurd (omega arith)
three_small (x ∷ y ∷ []) h e = absurd (omega arith)
three_small (x ∷ y ∷ z ∷ vs) (between_more l m (between_more p q (between_more r s t))) e = (m, q, s)

three_stored : (vs : List ℕ) → length vs ≡ 3 → sets (0 ∷ 0 ∷ 0 ∷ []) 0 vs ≡ vs
three_stored [] e = absurd (omega arith)
three_stored (x ∷ []) e = absurd (omega arith)
three_stored (x ∷ y ∷ []) e = absurd (omega arith)
three_stored (x ∷ y ∷ z ∷ []) e = refl
three_stored (x ∷ y ∷ z ∷ u ∷ vs) e = absurd (omega arith)

module _ (w : List ℕ) (t : Bool) (et : t ≡ same_bytes w (48 ∷ [])) where
  pub colour_short : t ≡ true → WordRead (colour_of w) w (Ok 0)
  unfolding colour_of
  colour_short q = record { is = rw (← et, q); near = zero-le }

  module _ (no : t ≡ false) (v : List ℕ) (x : Result ℕ Fault) (ex : ListRead 0 colour_limit false 3 w (0 ∷ 0 ∷ 0 ∷ []) v x) where
    pub colour_bad : (bad : Fault) → x ≡ Err bad → WordRead (colour_of w) w (Err bad)
    unfolding colour_of
    colour_bad bad q = record { is = rw (← et, no, ← ex.is, q); near = rw q at ex.near }

    pub colour_good : (m : ℕ) → x ≡ Ok m → (c : ℕ) → c ≡ packed (get_or v 0 0 % suc colour_limit) (get_or v 1 0 % suc colour_limit) (get_or v 2 0 % suc colour_limit) → WordRead (colour_of w) w (Ok c)
    unfolding colour_of
    colour_good m q c e =
        let r = list_range 0 colour_limit false 3 w m (sym ex.is ∙ q) in
        let s = three_small (values_of w) r.0 r.1 in
        let z : v ≡ sets (0 ∷ 0 ∷ 0 ∷ []) 0 (values_of w) = rw q at ex.stored in
        let y : v ≡ values_of w = z ∙ three_stored (values_of w) r.1 in
        let a : get_or v 0 0 % suc colour_limit ≡ get_or (values_of w) 0 0 = rw y (omega (arith, s.0)) in
        let b : get_or v 1 0 % suc colour_limit ≡ get_or (values_of w) 1 0 = rw y (omega (arith, s.1)) in
        let d : get_or v 2 0 % suc colour_limit ≡ get_or (values_of w) 2 0 = rw y (omega (arith, s.2)) in
        record { is = rw (← et, no, ← ex.is, q, e, a, b, d); near = zero-le }

pub ruleset colours = (colour_short, colour_bad, colour_good)

-- a run of stores in a part of a table is one in the table
set_right : (p e : List ℕ) (i v : ℕ) → set (p ++ e) (length p + i) v ≡ p ++ set e i v
set_right [] e i v = ap (λ (j : ℕ). set e j v) (omega arith)
set_right (x ∷ p) e i v =
    let q : suc (length p) + i ≡ suc (length p + i) = omega arith in
    rw q (ap (λ (l : List ℕ). x ∷ l) (set_right p e i v))

sets_right : (p e : List ℕ) (i : ℕ) (xs : List ℕ) → sets (p ++ e) (length p + i) xs ≡ p ++ sets e i xs
sets_right p e i [] = refl
sets_right p e i (x ∷ xs) =
    let q : suc (length p + i) ≡ length p + suc i = omega arith in
    rw (set_right p e i x, q) (sets_right p (set e i x) (suc i) xs)

part_at_lem : (d xs : List ℕ) (b : ℕ) → b ≤ length d → take b d ++ sets (drop b d) 0 xs ≡ sets d b xs
part_at_lem d xs b h =
    let e : length (take b d) + 0 ≡ b = rw length-take (omega arith) in
    sym (sets_right (take b d) (drop b d) 0 xs) ∙ rw (e, take-append-drop)

pub part_stored : (d y xs : List ℕ) (base b : ℕ) → b ≡ min base (length d) → y ≡ sets (take (length d - b) (drop b d)) 0 xs → put_mid b (length d - b) d y ≡ sets d base xs
part_stored d y xs base b eb ey =
    let m : take (length d - b) (drop b d) ≡ drop b d = take_all (length d - b) (drop b d) (rw length-drop (omega arith)) in
    let z : length (drop b d) ≤ length d - b = rw length-drop (omega arith) in
    let o : drop (length d - b) (drop b d) ≡ [] = drop_of_length-le (drop b d) z in
    rw (ey, m, o, append-nil)
    (part_at_lem d xs b (omega arith) ∙
    either base (length d) _ (λ h. let q : b ≡ base = omega arith in rw q)
    (λ h. sets_out d b xs (omega arith) ∙ sym (sets_out d base xs (omega arith))))

-- a list, its items stored in a part of the table
pub list_spelled : (r : Range) (n : ℕ) (w : List ℕ) (base b : ℕ) (d y : List ℕ) (low high : ℕ) (found x : Result ℕ Fault) → low ≡ least_of r → high ≡ most_of r → b ≡ min base (length d)
    → ItemsStored low high w (take (length d - b) (drop b d)) y found → ListEnded true n w found x
    → Spelled (list_of (least_of r) (most_of r) true n w) w (good_values (least_of r) (most_of r) (items_of w)) base d (put_mid b (length d - b) d y) x
unfolding list_of
list_spelled r n w base b d y low high found x el eh eb walk end = record {
  is = rw (← el, ← eh, ← walk.is) end.is;
  near = end.near walk.near;
  stored = rw (← el, ← eh) (part_stored d y (good_values low high (items_of w)) base b eb walk.stored);
}

-- what a word spells, kind by kind
module _ (k : Kind) (n : ℕ) (w : List ℕ) (base : ℕ) (d : List ℕ) (r : Result ℕ Fault) where
  abbrev Goal : List ℕ → Type 0
  Goal d' = Spelled (spelt k n w) w (items_in k w) base d d' r

  pub spell_name : k ≡ Name → WordRead (name_of w) w r → Goal d
  unfolding spelt
  spell_name q h = record { is = rw q h.is; near = h.near; stored = rw q }

  pub spell_number : (l : Range) → k ≡ Number l → WordRead (number_of (least_of l) (most_of l) w) w r → Goal d
  unfolding spelt
  spell_number l q h = record { is = rw q h.is; near = h.near; stored = rw q }

  pub spell_count : k ≡ Count → WordRead (number_of (least_of BlockCount) (most_of BlockCount) w) w r → Goal d
  unfolding spelt
  spell_count q h = record { is = rw q h.is; near = h.near; stored = rw q }

  pub spell_items : (l : Range) (d' : List ℕ) → k ≡ Items l → Spelled (list_of (least_of l) (most_of l) true n w) w (good_values (least_of l) (most_of l) (items_of w)) base d d' r → Goal d'
  unfolding spelt
  spell_items l d' q h = rw q h

  pub spell_strand : (dot : Bool) → k ≡ Stranded dot → WordRead (strand_of dot w) w r → Goal d
  unfolding spelt
  spell_strand dot q h = record { is = rw q h.is; near = h.near; stored = rw q }

  pub spell_fixed : (f : Fixed) → k ≡ Word f → WordRead (fixed_of f w) w r → Goal d
  unfolding spelt
  spell_fixed f q h = record { is = rw q h.is; near = h.near; stored = rw q }

  pub spell_colour : k ≡ Colour → WordRead (colour_of w) w r → Goal d
  unfolding spelt
  spell_colour q h = record { is = rw q h.is; near = h.near; stored = rw q }

pub ruleset spellings = (spell_name, spell_number, spell_count, spell_items, spell_strand, spell_fixed, spell_colour)
