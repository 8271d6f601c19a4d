-- The standard text of a comma list: its items are the list. Assumes nothing.
use mathlib.Core.Path.{◌≡◌, refl, ap, ◌∙◌}
use mathlib.Core.Bool.{true}
use mathlib.Core.List.{List, [], ◌∷◌, ◌++◌, map, append_assoc}
use Prim.Native.Nat.{ℕ, suc, ◌+◌, ◌≤◌, ◌<◌}
use native.Mathlib.Omega.{arith}
use native.Mathlib.Numerals.{add-one}
use lib.ListN.{length, get_or, drop, length-append, drop_of_length-le}
use lib.Seq.{drop-cons}
use borrow.Author.Tests.{eq-eqb, ne_eqb}
use Rattle.text.specs.declared.Class.TheVariants.{Item, Graphic}
use Rattle.text.specs.Scan.{run}
use Rattle.text.specs.Pieces.{pieces_of}
use Rattle.text.proofs.PieceLaws.{pieces_join}
use Rattle.text.proofs.TextLaws.{All, all_append}
use Rattle.numbers.specs.Numbers.{value}
use Rattle.numbers.specs.Lists.{items_of, test_items, values_of, good_values, open_end, list_end, list_of}
use Rattle.writing.specs.Digits.{digits, list_text}
use Rattle.writing.specs.Puts.{Put}
use Rattle.numbers.specs.Ranges.{Between, between_none, between_more}
use Rattle.ledger.specs.Limits.{largest_place}
use Rattle.writing.proofs.PutLaws.{put_then, Completes, completes_step, completes_done}
use Rattle.writing.proofs.DigitLaws.{Most, number_digits, value_digits, digits_graphic, digits_items}
use Rattle.std.specs.Prelude.{Ok}

-- one number and its comma
pub put_item_is : (n : ℕ) (b b₁ b₂ : List ℕ) (at p r : ℕ) → Put (digits n) at b b₁ p → Put (44 ∷ []) p b₁ b₂ r → Put (list_text (n ∷ [])) at b b₂ r
unfolding list_text
put_item_is n b b₁ b₂ at p r f g = put_then f g

pub list_next : (vs : List ℕ) (i : ℕ) → i < length vs → list_text (drop i vs) ≡ list_text (get_or vs i 0 ∷ []) ++ list_text (drop (i + 1) vs)
unfolding list_text
list_next vs i h = rw (drop-cons vs i 0 h, add-one i, append_assoc)

pub list_past : (vs : List ℕ) (i : ℕ) → length vs ≤ i → list_text (drop i vs) ≡ []
unfolding list_text
list_past vs i h = rw (drop_of_length-le vs h)

-- a run of item bytes and a comma is one item
pub items_join : (xs rest : List ℕ) → All Item xs → items_of (xs ++ (44 ∷ rest)) ≡ xs ∷ items_of rest
unfolding items_of
items_join xs rest h = pieces_join Item xs 44 rest h refl

-- the items of a written list are the digits of its numbers
pub list_items : (vs : List ℕ) → items_of (list_text vs) ≡ map digits vs
unfolding list_text items_of pieces_of
list_items [] = refl
list_items (v ∷ vs) = items_join (digits v) (list_text vs) (digits_items v) ∙ ap (λ (x : List (List ℕ)). digits v ∷ x) (list_items vs)

digit_values : (least most : ℕ) (vs : List ℕ) → most < Most → Between least most vs → map value (map digits vs) ≡ vs
digit_values least most [] l between_none = refl
digit_values least most (v ∷ vs) l (between_more low high t) = rw (value_digits v (omega arith)) (ap (λ (x : List ℕ). v ∷ x) (digit_values least most vs l t))

-- and their values are the list
pub list_values : (least most : ℕ) (vs : List ℕ) → most < Most → Between least most vs → values_of (list_text vs) ≡ vs
unfolding values_of
list_values least most vs l h = rw (list_items vs) (digit_values least most vs l h)

digit_test : (least most n at : ℕ) (vs : List ℕ) → most < Most → Between least most vs → test_items least most n at (map digits vs) ≡ Ok (n + length vs)
unfolding test_items
digit_test least most n at [] l between_none = ap Ok (omega arith)
digit_test least most n at (v ∷ vs) l (between_more low high t) =
    let e : n + 1 + length vs ≡ n + suc (length vs) = omega arith in
    rw (number_digits least most v low high (omega arith)) (digit_test least most (n + 1) (at + length (digits v) + 1) vs l t ∙ ap Ok e)

digit_good : (least most : ℕ) (vs : List ℕ) → most < Most → Between least most vs → good_values least most (map digits vs) ≡ vs
unfolding good_values
digit_good least most [] l between_none = refl
digit_good least most (v ∷ vs) l (between_more low high t) = rw (number_digits least most v low high (omega arith)) (ap (λ (x : List ℕ). v ∷ x) (digit_good least most vs l t))

-- and all of them are stored
pub list_good : (least most : ℕ) (vs : List ℕ) → most < Most → Between least most vs → good_values least most (items_of (list_text vs)) ≡ vs
list_good least most vs l h = rw (list_items vs) (digit_good least most vs l h)

pub list_some : (vs : List ℕ) → 0 < length vs → 0 < length (list_text vs)
unfolding list_text
list_some [] h = absurd (omega arith)
list_some (v ∷ vs) h = rw length-append (omega arith)

-- a written list is read as a list of its length, where one further comma is allowed
pub list_back : (least most n : ℕ) (vs : List ℕ) → 0 < length vs → length vs ≡ n → most < Most → Between least most vs → list_of least most true n (list_text vs) ≡ Ok n
unfolding list_of list_end open_end
list_back least most n vs some e l h =
    let z : 0 + length vs ≡ n = omega arith in
    rw (list_items vs, digit_test least most 0 0 vs l h, z, ne_eqb (length (list_text vs)) 0 (λ e. omega (arith, list_some vs some)), eq-eqb n n refl)

pub list_graphic : (vs : List ℕ) → All Graphic (list_text vs)
unfolding list_text run
list_graphic [] = refl
list_graphic (v ∷ vs) = all_append Graphic (digits v) (44 ∷ list_text vs) (digits_graphic v) (ap suc (list_graphic vs))

pub list_step : (vs : List ℕ) (i p q at : ℕ) (b b₁ b₀ : List ℕ) → Completes (list_text (drop i vs)) p b (list_text vs) at b₀ → i < length vs → Put (list_text (get_or vs i 0 ∷ [])) p b b₁ q → Completes (list_text (drop (i + 1) vs)) q b₁ (list_text vs) at b₀
list_step vs i p q at b b₁ b₀ k h f = completes_step (list_text (drop i vs)) (list_text (get_or vs i 0 ∷ [])) (list_text (drop (i + 1) vs)) (list_text vs) p q at b b₁ b₀ k (list_next vs i h) f

pub list_done : (vs : List ℕ) (i p at : ℕ) (b b₀ : List ℕ) → Completes (list_text (drop i vs)) p b (list_text vs) at b₀ → length vs ≤ i → p ≤ largest_place → length b ≤ largest_place → Put (list_text vs) at b₀ b p
list_done vs i p at b b₀ k h l m = completes_done (list_text (drop i vs)) (list_text vs) p at b b₀ k (list_past vs i h) l m
