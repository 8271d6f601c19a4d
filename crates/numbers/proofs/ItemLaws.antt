-- Laws of the item of a list, and of the number in a text, that begin at a place, by the digits at their front. Assumes
-- nothing.
use mathlib.Core.Path.{◌≡◌, refl, sym, ◌∙◌}
use mathlib.Core.Bool.{Bool, true, false, not, ◌&&◌, ◌||◌}
use mathlib.Core.List.{List}
use Prim.Native.Nat.{ℕ, zero, suc, ◌-◌, ◌≤◌, ◌<◌}
use native.Mathlib.Omega.{arith}
use lib.ListN.{length, take, drop, get_or}
use lib.Dec.{leb, eqb}
use borrow.Author.Tests.{not-true, not-false, leb-true}
use Rattle.text.specs.declared.Class.TheVariants.{Digit, Item, Word}
use Rattle.text.specs.Scan.{is_in, end_of, Scanned}
use Rattle.text.proofs.TextLaws.{both, digit_item, digit_graphic, graphic_word}
use Rattle.numbers.specs.declared.Digits.{Digits}
use Rattle.numbers.specs.Numbers.{is_led, is_word_end, number_of, NumberRead, NumberTaken, Judged, DigitsRead}
use Rattle.numbers.specs.Lists.{is_item_end, PieceRead}
use Rattle.numbers.proofs.DigitLaws.{part_in_lem, part_led, digits_ended, judged_part}
use Rattle.std.specs.Prelude.{Ok, Result, Some}
use Rattle.numbers.specs.declared.Taken.{Taken}
use Rattle.std.specs.Bool.{then_some}
use Rattle.ledger.specs.declared.Fault.{Fault}

-- found before it is read
pub piece_found : (least most : ℕ) (w : List ℕ) (i e : ℕ) (r : Result ℕ Fault) → i ≤ length w → Scanned Item w i e → NumberRead least most (take (e - i) (drop i w)) r → PieceRead least most w i (record { spelt = r; end = e })
piece_found least most w i e r h s n = record { is = rw (← s.is) n.is; ends = s.is; low = s.low; high = omega (arith, s.high) }

-- a test by the end or by the byte there, before the end
by_byte : (n e : ℕ) (y : Bool) → (leb n e || y) ≡ true → e < n → y ≡ true
by_byte n e y h l = go (leb n e) refl h
  where
    go : (x : Bool) → leb n e ≡ x → (x || y) ≡ true → y ≡ true
    go true p q = absurd (omega (arith, leb-true n e p))
    go false p q = q

-- read in one pass
module _ (least most : ℕ) (w : List ℕ) (i : ℕ) (h : i ≤ length w) (d : Digits) (read : DigitsRead w i 19 d) (t : Bool) (et : t ≡ is_item_end w d.end) (yes' : not t ≡ false) where
  no_item : d.end < length w → is_in Item (get_or w d.end 0) ≡ false
  no_item l = rw (by_byte (length w) d.end (eqb (get_or w d.end 0) 44) (sym et ∙ not-false t yes') l)

  inside : d.end ≤ end_of Digit w i
  inside = omega (arith, read.is)

  pub piece_short : (first : ℕ) (r : Result ℕ Fault) → first ≡ get_or w i 0 → Judged (d.end - i) first d.value least most r → PieceRead least most w i (record { spelt = r; end = d.end })
  piece_short first r ef j =
      let e : d.end ≡ end_of Item w i = digits_ended Item digit_item w i d.end h read.low inside no_item in
      let high : d.end ≤ length w = omega (arith, read.high) in
      let n = judged_part w i d.end first d.value least most r read.low high (part_in_lem Digit w i d.end read.low inside) ef read.means j in
      record { is = rw (← e) n.is; ends = e; low = read.low; high = high }

-- the number at a place of a text: where its digits end with the word, are led well and are in range
module _ (least most : ℕ) (s : List ℕ) (i : ℕ) (d : Digits) (read : DigitsRead s i 19 d) where
  led_more : (first : ℕ) → is_led (d.end - i) first ≡ true → i < d.end
  led_more first h = go (d.end - i) refl h
    where
      go : (k : ℕ) → k ≡ d.end - i → is_led k first ≡ true → i < d.end
      go zero q e = absurd (let z : ◌≡◌ {A = ℕ} 0 1 = cc in omega arith)
      go (suc k) q e = omega arith

  module _ (l : i < d.end) where
    passed : d.end ≤ end_of Digit s i
    passed = omega (arith, read.is)

    high : d.end ≤ length s
    high = omega (arith, read.high)

    word_ends : is_word_end s d.end ≡ true → d.end ≡ end_of Word s i
    word_ends e =
        digits_ended Word (λ b h. graphic_word b (digit_graphic b h)) s i d.end (omega (arith, high)) read.low passed
        (λ k. not-true (is_in Word (get_or s d.end 0)) (by_byte (length s) d.end (not (is_in Word (get_or s d.end 0))) e k))

    word_spells : (first : ℕ) → first ≡ get_or s i 0 → is_led (d.end - i) first ≡ true → (leb least d.value && leb d.value most) ≡ true → is_word_end s d.end ≡ true
        → number_of least most (take (end_of Word s i - i) (drop i s)) ≡ Ok d.value
    unfolding number_of
    word_spells first ef led fits e =
        let h = part_led s i d.end read.low high (part_in_lem Digit s i d.end read.low passed) in
        rw (← (word_ends e), ← h, ← ef, led, ← read.means, fits)

  -- where the tests hold the number is taken, else none
  pub number_taken : (first : ℕ) (led ended : Bool) → first ≡ get_or s i 0 → led ≡ is_led (d.end - i) first → ended ≡ is_word_end s d.end
      → NumberTaken least most s i (then_some (ended && (led && (leb least d.value && leb d.value most))) (record { value = d.value; end = d.end }))
  number_taken first led ended ef el ee =
      record {
        means = λ x e. rw (← (same _ x e).1) (word_spells (more (same _ x e).0) first ef (leads (same _ x e).0) (fits (same _ x e).0) (ends (same _ x e).0));
        ends = λ x e. rw (← (same _ x e).1) (word_ends (more (same _ x e).0) (ends (same _ x e).0));
        some = λ x e. rw (← (same _ x e).1) (more (same _ x e).0);
        inside = λ x e. rw (← (same _ x e).1) (high (more (same _ x e).0));
        small = λ x e. rw (← (same _ x e).1) (leb-true d.value most (both (leb least d.value) (leb d.value most) (fits (same _ x e).0)).1);
      }
    where
      here : Taken
      here = record { value = d.value; end = d.end }

      same : (t : Bool) (x : Taken) → then_some t here ≡ Some x → (t ≡ true) × (here ≡ x)
      same true x e = (refl, cc)
      same false x e = absurd (let z : ◌≡◌ {A = ℕ} 0 1 = cc in omega arith)

      inner : Bool
      inner = leb least d.value && leb d.value most

      ends : (ended && (led && inner)) ≡ true → is_word_end s d.end ≡ true
      ends q = sym ee ∙ (both ended (led && inner) q).0

      leads : (ended && (led && inner)) ≡ true → is_led (d.end - i) first ≡ true
      leads q = sym el ∙ (both led inner (both ended (led && inner) q).1).0

      fits : (ended && (led && inner)) ≡ true → inner ≡ true
      fits q = (both led inner (both ended (led && inner) q).1).1

      more : (ended && (led && inner)) ≡ true → i < d.end
      more q = led_more first (leads q)
