-- A value in range is written as a word that spells it back: the round trip, kind by kind. Assumes nothing.
use mathlib.Core.Path.{◌≡◌, refl, sym, ap, ◌∙◌}
use mathlib.Core.Bool.{Bool, true, false, ◌&&◌, ◌||◌}
use mathlib.Core.List.{List, [], ◌∷◌, ◌++◌}
use Prim.Native.Nat.{ℕ, suc, ◌*◌, ◌%◌, ◌≤◌, ◌<◌}
use native.Mathlib.Omega.{arith}
use lib.ListN.{length, take, drop, length-append}
use lib.Dec.{eqb}
use borrow.Author.Tests.{le-leb, eqb-true, eqb-false, ne_eqb, not-true}
use Rattle.ledger.specs.Limits.{name_limit, colour_limit}
use Rattle.text.specs.declared.Class.TheVariants.{Graphic, Item, Digit}
use Rattle.text.specs.Scan.{is_in, run}
use Rattle.text.proofs.Laws.{more_ones}
use Rattle.text.proofs.TextLaws.{All, all_append, digit_item}
use Rattle.text.proofs.PieceLaws.{pieces_last}
use Rattle.numbers.specs.Numbers.{number_of}
use Rattle.numbers.specs.Lists.{items_of, test_items, values_of, last_byte, open_end, list_end, list_of}
use Rattle.writing.specs.Digits.{digits}
use Rattle.writing.proofs.DigitLaws.{Most, some_digits, number_digits, value_digits, run_digits, digits_graphic, digits_items}
use Rattle.writing.proofs.ListLaws.{items_join, list_some, list_back, list_good, list_graphic}
use Rattle.kinds.specs.declared.Range.{Range}
use Rattle.kinds.specs.declared.Range.TheVariants.{Coordinate, Size, BedScore, ChainScore, ChainId, BlockCount}
use Rattle.kinds.specs.declared.Fixed.{Fixed}
use Rattle.kinds.specs.declared.Fixed.TheVariants as fixed
use Rattle.kinds.specs.declared.Kind.{Kind}
use Rattle.kinds.specs.declared.Kind.TheVariants.{Name, Number, Count, Items, Stranded, Word, Colour}
use Rattle.kinds.specs.Kinds.{least_of, most_of, fixed_text, is_strand, same_bytes, packed, colour_of, name_of, strand_of, fixed_of, spelt, items_in}
use Rattle.kinds.specs.Words.{red_of, green_of, blue_of, colour_text, word_of}
use Rattle.kinds.specs.Ranges.{InRange, list_in}
use Rattle.std.specs.Prelude.{Ok}

-- what the round trip asks of one word: it shows, it is there, it spells its value, and it holds its list
pub record Written (c : Kind) (n v : ℕ) (w held : List ℕ) : Type 0 where
  pub shows : All Graphic w
  pub some : 0 < length w
  pub back : spelt c n w ≡ Ok v
  pub holds : items_in c w ≡ held

-- every greatest value has fewer digits than a word of the machine
pub most_small : (r : Range) → most_of r < Most
most_small Coordinate = omega arith
most_small Size = omega arith
most_small BedScore = omega arith
most_small ChainScore = omega arith
most_small ChainId = omega arith
most_small BlockCount = omega arith

number_back : (r : Range) (v : ℕ) → least_of r ≤ v → v ≤ most_of r → number_of (least_of r) (most_of r) (digits v) ≡ Ok v
number_back r v h m = number_digits (least_of r) (most_of r) v h m (omega (arith, most_small r))

-- a strand's letter is one of three
strand_letter_lem : (dot : Bool) (v : ℕ) → is_strand dot (v ∷ []) ≡ true → (P : ℕ → Type 0) → P 43 → P 45 → (dot ≡ true → P 46) → P v
strand_letter_lem dot v h P a b d = go (eqb v 43) (eqb v 45) dot (eqb v 46) refl refl refl refl h
  where
    go : (x y z u : Bool) → eqb v 43 ≡ x → eqb v 45 ≡ y → dot ≡ z → eqb v 46 ≡ u → (x || (y || (z && u))) ≡ true → P v
    go true y z u e f g o k = rw (eqb-true v 43 e) a
    go false true z u e f g o k = rw (eqb-true v 45 f) b
    go false false true true e f g o k = rw (eqb-true v 46 o) (d g)
    go false false true false e f g o k = absurd (let q : ◌≡◌ {A = ℕ} 0 1 = cc in omega arith)
    go false false false u e f g o k = absurd (let q : ◌≡◌ {A = ℕ} 0 1 = cc in omega arith)

strand_written : (dot : Bool) (n v : ℕ) → is_strand dot (v ∷ []) ≡ true → Written (Stranded dot) n v ((v % 256) ∷ []) []
unfolding spelt strand_of run
strand_written dot n v h =
    strand_letter_lem dot v h (λ (x : ℕ). Written (Stranded dot) n x ((x % 256) ∷ []) [])
    (record { shows = refl; some = omega arith; back = refl; holds = refl }) (record { shows = refl; some = omega arith; back = refl; holds = refl })
    (λ e. rw e (record { shows = refl; some = omega arith; back = refl; holds = refl }))

fixed_written : (f : Fixed) (n : ℕ) → Written (Word f) n 0 (fixed_text f) []
unfolding spelt fixed_of same_bytes run
fixed_written fixed.Chain n = record { shows = refl; some = omega arith; back = refl; holds = refl }
fixed_written fixed.Plus n = record { shows = refl; some = omega arith; back = refl; holds = refl }

-- a colour: its three numbers are the items, and no comma stands at the end
items_only : (xs : List ℕ) → 0 < length xs → All Item xs → items_of xs ≡ xs ∷ []
unfolding items_of
items_only [] h k = absurd (omega arith)
items_only (x ∷ xs) h k = pieces_last Item x xs k

last_append : (d : ℕ) (xs : List ℕ) (y : ℕ) (ys : List ℕ) → last_byte d (xs ++ (y ∷ ys)) ≡ last_byte y ys
unfolding last_byte
last_append d [] y ys = refl
last_append d (x ∷ xs) y ys = last_append x xs y ys

last_in : (d x : ℕ) (xs : List ℕ) → All Digit (x ∷ xs) → is_in Digit (last_byte d (x ∷ xs)) ≡ true
unfolding last_byte run
last_in d x [] h = (more_ones (is_in Digit x) 0 0 h).0
last_in d x (y ∷ xs) h = last_in x y xs (more_ones (is_in Digit x) (run Digit (y ∷ xs)) (length (y ∷ xs)) h).1

last_digit : (d : ℕ) (xs : List ℕ) → 0 < length xs → All Digit xs → eqb (last_byte d xs) 44 ≡ false
last_digit d [] h k = absurd (omega arith)
last_digit d (x ∷ xs) h k = not-true (eqb (last_byte d (x ∷ xs)) 44) (digit_item (last_byte d (x ∷ xs)) (last_in d x xs k))

same_long : (xs : List ℕ) (y : ℕ) → 1 < length xs → same_bytes xs (y ∷ []) ≡ false
unfolding same_bytes
same_long [] y h = absurd (omega arith)
same_long (x ∷ []) y h = absurd (omega arith)
same_long (x ∷ z ∷ xs) y h = and_no (eqb x y)
  where
    and_no : (a : Bool) → (a && false) ≡ false
    and_no true = refl
    and_no false = refl

-- the number of colours
abbrev Colours : ℕ
Colours = suc colour_limit * suc colour_limit * suc colour_limit

module _ (n v : ℕ) (h : v < Colours) (some : v ≡ 0 → ⊥) where
  abbrev w : List ℕ
  w = digits (red_of v) ++ (44 ∷ (digits (green_of v) ++ (44 ∷ digits (blue_of v))))

  red_small : red_of v ≤ colour_limit
  red_small = omega arith

  green_small : green_of v ≤ colour_limit
  green_small = omega arith

  blue_small : blue_of v ≤ colour_limit
  blue_small = omega arith

  colour_items : items_of w ≡ digits (red_of v) ∷ digits (green_of v) ∷ digits (blue_of v) ∷ []
  colour_items = rw (
    items_join (digits (red_of v)) (digits (green_of v) ++ (44 ∷ digits (blue_of v))) (digits_items (red_of v)),
    items_join (digits (green_of v)) (digits (blue_of v)) (digits_items (green_of v)),
    items_only (digits (blue_of v)) (some_digits (blue_of v)) (digits_items (blue_of v)),
  )

  colour_test : test_items 0 colour_limit 0 0 (items_of w) ≡ Ok 3
  unfolding test_items
  colour_test = rw (
    colour_items,
    number_digits 0 colour_limit (red_of v) (omega arith) red_small (omega (arith, red_small)),
    number_digits 0 colour_limit (green_of v) (omega arith) green_small (omega (arith, green_small)),
    number_digits 0 colour_limit (blue_of v) (omega arith) blue_small (omega (arith, blue_small)),
  )

  colour_values : values_of w ≡ red_of v ∷ green_of v ∷ blue_of v ∷ []
  unfolding values_of
  colour_values = rw (
    colour_items,
    value_digits (red_of v) (omega (arith, red_small)),
    value_digits (green_of v) (omega (arith, green_small)),
    value_digits (blue_of v) (omega (arith, blue_small)),
  )

  colour_last : eqb (last_byte 0 w) 44 ≡ false
  colour_last = rw (
    last_append 0 (digits (red_of v)) 44 (digits (green_of v) ++ (44 ∷ digits (blue_of v))),
    last_append 44 (digits (green_of v)) 44 (digits (blue_of v)),
  ) (last_digit 44 (digits (blue_of v)) (some_digits (blue_of v)) (run_digits (blue_of v)))

  colour_long : 1 < length w
  colour_long = simp length-append (omega (arith, some_digits (red_of v)))

  colour_list : list_of 0 colour_limit false 3 w ≡ Ok 3
  unfolding list_of list_end open_end
  colour_list = rw (colour_test, ne_eqb (length w) 0 (λ e. omega (arith, colour_long)), colour_last)

  colour_whole : packed (red_of v) (green_of v) (blue_of v) ≡ v
  colour_whole = omega arith

  colour_graphic : All Graphic w
  unfolding run
  colour_graphic =
      all_append Graphic (digits (red_of v)) (44 ∷ (digits (green_of v) ++ (44 ∷ digits (blue_of v)))) (digits_graphic (red_of v))
      (ap suc (all_append Graphic (digits (green_of v)) (44 ∷ digits (blue_of v)) (digits_graphic (green_of v)) (ap suc (digits_graphic (blue_of v)))))

  colour_back : colour_of w ≡ Ok v
  unfolding colour_of
  colour_back = rw (same_long w 48 colour_long, colour_list, colour_values) (ap Ok colour_whole)

  colour_some : Written Colour n v (colour_text v) []
  unfolding spelt colour_text
  colour_some = rw (ne_eqb v 0 some) (record { shows = colour_graphic; some = omega (arith, colour_long); back = colour_back; holds = refl })

colour_written : (n v : ℕ) → v < Colours → Written Colour n v (colour_text v) []
unfolding spelt colour_of colour_text same_bytes run
colour_written n v h = go (eqb v 0) refl
  where
    go : (t : Bool) → eqb v 0 ≡ t → Written Colour n v (colour_text v) []
    go true e = rw (eqb-true v 0 e) (record { shows = refl; some = omega arith; back = refl; holds = refl })
    go false e = colour_some n v h (eqb-false v 0 e)

-- a value in range is written as a word that spells it
pub written_lem : (c : Kind) (t ls : List ℕ) (n base v p : ℕ) → InRange c t ls n base v p → Written c n v (word_of c t ls base v p) (list_in c ls base v)
unfolding spelt name_of
written_lem Name t ls n base v p h = record {
  shows = h.shows ∙ sym h.there;
  some = omega (arith, h.some, h.there);
  back = rw (h.there, le-leb 1 v h.some, le-leb v name_limit h.short);
  holds = refl;
}
written_lem (Number r) t ls n base v p h = record { shows = digits_graphic v; some = some_digits v; back = number_back r v h.0 h.1; holds = refl }
written_lem Count t ls n base v p h = record { shows = digits_graphic v; some = some_digits v; back = number_back BlockCount v h.0 h.1; holds = refl }
written_lem (Items r) t ls n base v p h =
    let xs = take v (drop base ls) in
    let long : 0 < length xs = omega (arith, h.some, h.there) in
    record {
      shows = list_graphic xs;
      some = list_some xs long;
      back = list_back (least_of r) (most_of r) n xs long (h.there ∙ h.count) (most_small r) h.range ∙ ap Ok (sym h.count);
      holds = list_good (least_of r) (most_of r) xs (most_small r) h.range;
    }
written_lem (Stranded dot) t ls n base v p h = strand_written dot n v h
written_lem (Word f) t ls n base v p h = rw h (fixed_written f n)
written_lem Colour t ls n base v p h = colour_written n v h
