-- Every refusal of a text stands in it: its place is no more than the text's length. Assumes nothing.
use mathlib.Core.Path.{◌≡◌, refl}
use mathlib.Core.Bool.{Bool, true, false, not, ◌&&◌, cond}
use mathlib.Core.List.{List, [], ◌∷◌}
use Prim.Native.Nat.{ℕ, zero, suc, ◌+◌, ◌-◌, ◌*◌, ◌≤◌, zero-le}
use native.Mathlib.Omega.{arith}
use native.Mathlib.Nat.{le_refl}
use lib.ListN.{length, drop, get_or, length-take, length-drop}
use lib.Dec.{leb, eqb}
use Rattle.std.specs.Prelude.{Ok, Err, Result, ⊤}
use Rattle.ledger.specs.declared.Reason.{Reason}
use Rattle.ledger.specs.declared.Reason.TheVariants.{TextTooLong, WrongCount, ByteNotAllowed, NumberMisspelt, NumberOutOfRange, BadWord, ListLength}
use Rattle.ledger.specs.Limits.{text_limit, name_limit, colour_limit}
use Rattle.text.specs.declared.Class.{Class}
use Rattle.text.specs.declared.Class.TheVariants.{Word, Line, Allowed, Item}
use Rattle.text.specs.declared.Extent.{Extent}
use Rattle.text.specs.Scan.{is_in, end_of}
use Rattle.text.specs.Pieces.{onto, pieces_of, non_empty, words_of}
use Rattle.text.specs.Words.{line_end, next_line, next_word, bytes_of}
use Rattle.ledger.specs.declared.Fault.{Fault}
use Rattle.ledger.specs.Refusals.{require, fault_at}
use Rattle.ledger.specs.declared.Refusal.{Refusal}
use Rattle.text.specs.Checks.{fault, refused, then_check, text_check, words_check, last_line_check}
use Rattle.text.proofs.ShowLaws.{scan_in, next_in, word_in, line_in}
use Rattle.numbers.specs.Spelling.{fault_in}
use Rattle.numbers.specs.Numbers.{well_spelt, value, number_of}
use Rattle.numbers.specs.Lists.{items_of, or_item, test_items, open_end, then_count, list_end, list_of}
use Rattle.kinds.specs.declared.Kind.{Kind}
use Rattle.kinds.specs.declared.Kind.TheVariants.{Name, Number, Count, Items, Stranded, Colour}
use Rattle.kinds.specs.declared.Kind.TheVariants as kind
use Rattle.kinds.specs.Kinds.{count_after, fixed_text, is_strand, whole_of, name_of, strand_of, fixed_of, colour_of, spelt, same_bytes}
use Rattle.columns.specs.Columns.{field_of, field_from, then_columns, then_next, columns_from, then_numbers, values_from}
use Rattle.columns.specs.OneLine.{count_check, then_last, line_read}
use Rattle.demands.proofs.LengthLaws.{spread}

-- ---- where a stage has its fault, and where a check of a record is refused
abbrev pub fault_place : Result ⊤ Fault → ℕ
fault_place (Ok tt) = 0
fault_place (Err x) = x.place

abbrev pub place_of_lem : Result ⊤ Refusal → ℕ
place_of_lem (Ok tt) = 0
place_of_lem (Err x) = x.place

pub required : (n : ℕ) (t : Bool) (why : Reason) (at : ℕ) (rest : Result ⊤ Fault) → at ≤ n → fault_place rest ≤ n → fault_place (require t (fault why at) rest) ≤ n
required n true why at rest h k = k
required n false why at rest h k = h

pub demanded : (t : Bool) (why : Reason) (rest : Result ⊤ Refusal) → place_of_lem rest ≤ 0 → place_of_lem (require t (refused why) rest) ≤ 0
demanded true why rest k = k
demanded false why rest k = zero-le

-- a stage, then the rest, for answers of any type that have a place
module _ {A : Type 0} (place : A → ℕ) (stop : Fault → A) (n : ℕ) (same : (x : Fault) → place (stop x) ≡ x.place) where
  pub then_place : (c : Result ⊤ Fault) (rest : A) → fault_place c ≤ n → place rest ≤ n → place (then_check stop c rest) ≤ n
  then_place (Ok tt) rest h k = k
  then_place (Err x) rest h k = rw (same x) h

module _ (s : List ℕ) where
  pub text_place : fault_place (text_check s) ≤ length s
  unfolding text_check
  text_place =
      required (length s) (leb (length s) text_limit) TextTooLong 0 _ zero-le
      (required (length s) (leb (length s) (end_of Allowed s 0)) ByteNotAllowed (end_of Allowed s 0) (Ok tt) (scan_in s Allowed 0 zero-le) zero-le)

  pub words_place : (line n most : ℕ) (good : Bool) → line ≤ length s → fault_place (words_check s line n most good) ≤ length s
  unfolding words_check line_end
  words_place line n most good h = required (length s) (leb n most) WrongCount _ _ (word_in s line most h).0 (required (length s) good WrongCount _ (Ok tt) (scan_in s Line line h) zero-le)

  pub last_place : (line : ℕ) → line ≤ length s → fault_place (last_line_check s line) ≤ length s
  unfolding last_line_check
  last_place line h = required (length s) (leb (length s) (next_line s line)) WrongCount _ (Ok tt) (next_in s (next_line s line) (line_in s line h)).0 zero-le

-- ---- a fault in a word stands in it
fault_require : (n : ℕ) (t : Bool) (why : Reason) (at : ℕ) (rest : Result ℕ Fault) → at ≤ n → fault_in rest ≤ n → fault_in (require t (Err (fault_at why at)) rest) ≤ n
fault_require n true why at rest h k = k
fault_require n false why at rest h k = h

number_near : (least most n : ℕ) (w : List ℕ) → fault_in (number_of least most w) ≤ n
unfolding number_of
number_near least most n w = fault_require n (well_spelt w) NumberMisspelt 0 _ zero-le (fault_require n (leb least (value w) && leb (value w) most) NumberOutOfRange 0 (Ok (value w)) zero-le zero-le)

whole_near : (n : ℕ) (t : Bool) (v : ℕ) → fault_in (whole_of t v) ≤ n
whole_near n t v = fault_require n t BadWord 0 (Ok v) zero-le zero-le

-- pieces with a byte more for each are one byte longer at most
pieces_spread : (c : Class) (w : List ℕ) → spread (pieces_of c w) ≤ length w + 1
unfolding pieces_of
pieces_spread c [] = omega arith
pieces_spread c (b ∷ w) = go (is_in c b) (pieces_of c w) (pieces_spread c w)
  where
    go : (t : Bool) (xs : List (List ℕ)) → spread xs ≤ length w + 1 → spread (cond t (onto b xs) ([] ∷ xs)) ≤ suc (length w) + 1
    go true [] h = omega arith
    go true (x ∷ xs) h = omega arith
    go false xs h = omega arith

-- a line has no more words than bytes and one more
held_few : (xs : List (List ℕ)) → length (non_empty xs) ≤ spread xs
unfolding non_empty
held_few [] = omega arith
held_few ([] ∷ xs) = omega (arith, held_few xs)
held_few ((b ∷ w) ∷ xs) = omega (arith, held_few xs)

pub words_few : (line : List ℕ) → length (words_of line) ≤ length line + 1
unfolding words_of
words_few line = omega (arith, held_few (pieces_of Word line), pieces_spread Word line)

items_near : (least most n at : ℕ) (xs : List (List ℕ)) → fault_in (test_items least most n at xs) ≤ at + spread xs - 1
unfolding test_items
items_near least most n at [] = zero-le
items_near least most n at (x ∷ xs) = go (number_of least most x) (items_near least most (n + 1) (at + length x + 1) xs)
  where
    go : (y : Result ℕ Fault) → fault_in (test_items least most (n + 1) (at + length x + 1) xs) ≤ at + length x + 1 + spread xs - 1
        → fault_in (or_item y at (test_items least most (n + 1) (at + length x + 1) xs)) ≤ at + (length x + 1 + spread xs) - 1
    go (Ok v) h = omega arith
    go (Err bad) h = omega arith

list_near : (least most : ℕ) (comma : Bool) (n : ℕ) (w : List ℕ) → fault_in (list_of least most comma n w) ≤ length w
unfolding list_of list_end items_of
list_near least most comma n w = go (test_items least most 0 0 (pieces_of Item w)) (omega (arith, items_near least most 0 0 (pieces_of Item w), pieces_spread Item w))
  where
    go : (x : Result ℕ Fault) → fault_in x ≤ length w
        → fault_in (then_count x (λ m. require (not (open_end comma w)) (Err (fault_at NumberMisspelt (length w))) (require (eqb m n) (Err (fault_at ListLength 0)) (Ok m)))) ≤ length w
    go (Ok m) h = fault_require (length w) (not (open_end comma w)) NumberMisspelt (length w) (require (eqb m n) (Err (fault_at ListLength 0)) (Ok m)) (le_refl (length w)) (fault_require (length w) (eqb m n) ListLength 0 (Ok m) zero-le zero-le)
    go (Err bad) h = h

colour_near : (w : List ℕ) → fault_in (colour_of w) ≤ length w
unfolding colour_of
colour_near w = go (same_bytes w (48 ∷ [])) (list_of 0 colour_limit false 3 w) _ (list_near 0 colour_limit false 3 w)
  where
    go : (t : Bool) (x : Result ℕ Fault) (v : ℕ) → fault_in x ≤ length w → fault_in (cond t (Ok 0) (then_count x (λ m. Ok v))) ≤ length w
    go true x v h = zero-le
    go false (Ok m) v h = zero-le
    go false (Err bad) v h = h

spelt_near : (k : Kind) (n : ℕ) (w : List ℕ) → fault_in (spelt k n w) ≤ length w
unfolding spelt name_of strand_of fixed_of
spelt_near Name n w = whole_near (length w) (leb 1 (length w) && leb (length w) name_limit) (length w)
spelt_near (Number r) n w = number_near _ _ (length w) w
spelt_near Count n w = number_near _ _ (length w) w
spelt_near (Items r) n w = list_near _ _ true n w
spelt_near (Stranded dot) n w = whole_near (length w) (is_strand dot w) (get_or w 0 0)
spelt_near (kind.Word f) n w = whole_near (length w) (same_bytes w (fixed_text f)) 0
spelt_near Colour n w = colour_near w

-- ---- the columns of a line
abbrev pub columns_place : Result ℕ Fault → ℕ
columns_place (Ok e) = 0
columns_place (Err x) = x.place

module _ (s : List ℕ) where
  fault_in_lem : (w : Extent) (off : ℕ) → w.start ≤ length s → off ≤ length (bytes_of s w) → w.start + off ≤ length s
  unfolding bytes_of
  fault_in_lem w off h k = omega (arith, length-take (w.end - w.start) (drop w.start s), length-drop w.start s)

  pub columns_place_lem : (cs : List Kind) (n at : ℕ) → at ≤ length s → columns_place (columns_from cs n s at) ≤ length s
  unfolding columns_from field_from
  columns_place_lem [] n at h = zero-le
  columns_place_lem (k ∷ ks) n at h =
      go (spelt k n (bytes_of s (next_word s at))) (spelt_near k n (bytes_of s (next_word s at))) (λ v. columns_place_lem ks (count_after k v n) (next_word s at).end (next_in s at h).1)
    where
      go : (x : Result ℕ Fault) → fault_in x ≤ length (bytes_of s (next_word s at)) → ((v : ℕ) → columns_place (columns_from ks (count_after k v n) s (next_word s at).end) ≤ length s)
          → columns_place (then_columns (field_of x (next_word s at)) (λ v w. columns_from ks (count_after k v n) s w.end)) ≤ length s
      go (Ok v) l f = f v
      go (Err bad) l f = fault_in_lem (next_word s at) bad.place (next_in s at h).0 l

  -- the places that the columns hold
  pub values_place : (cs : List Kind) (n at i : ℕ) → at ≤ length s → get_or (values_from cs n s at) (2 * i + 1) 0 ≤ length s
  unfolding values_from field_from
  values_place [] n at i h = zero-le
  values_place (k ∷ ks) n at i h = go (spelt k n (bytes_of s (next_word s at))) i (λ v j. values_place ks (count_after k v n) (next_word s at).end j (next_in s at h).1)
    where
      go : (x : Result ℕ Fault) (i : ℕ) → ((v j : ℕ) → get_or (values_from ks (count_after k v n) s (next_word s at).end) (2 * j + 1) 0 ≤ length s)
          → get_or (then_numbers (field_of x (next_word s at)) (λ v w. v ∷ w.start ∷ values_from ks (count_after k v n) s w.end)) (2 * i + 1) 0 ≤ length s
      go (Ok v) zero f = (next_in s at h).0
      go (Ok v) (suc i) f = let e : 2 * suc i + 1 ≡ suc (suc (2 * i + 1)) = omega arith in rw e (f v i)
      go (Err bad) i f = zero-le

  -- a text of one line
  pub line_place : (cs : List Kind) → columns_place (line_read cs s) ≤ length s
  unfolding line_read count_check
  line_place cs =
      let at = then_place columns_place Err (length s) (λ x. refl) in
      at (text_check s) _ (text_place s) (at (words_check s 0 _ _ _) _ (words_place s 0 _ _ _ zero-le) (then_last_lem (columns_from cs 0 s 0) (columns_place_lem cs 0 0 zero-le)))
    where
      then_last_lem : (x : Result ℕ Fault) → columns_place x ≤ length s → columns_place (then_last x (last_line_check s 0)) ≤ length s
      then_last_lem (Ok e) h = then_place columns_place Err (length s) (λ x. refl) (last_line_check s 0) (Ok e) (last_place s 0 zero-le) zero-le
      then_last_lem (Err y) h = h

-- and the columns, then the rest
module _ {A : Type 0} (place : A → ℕ) (stop : Fault → A) (n : ℕ) (same : (x : Fault) → place (stop x) ≡ x.place) where
  pub next_place : (c : Result ℕ Fault) (rest : A) → columns_place c ≤ n → place rest ≤ n → place (then_next stop c rest) ≤ n
  next_place (Ok e) rest h k = k
  next_place (Err x) rest h k = rw (same x) h
