-- A comma list: its items, what reading them finds, and the numbers it holds.
use Rattle.std.specs.Prelude.{ℕ, ◌+◌, ◌-◌, ◌≤◌, ◌≡◌, Bool, not, ◌&&◌, ◌||◌, List, [], ◌∷◌, map, length, take, drop, get_or, leb, eqb, Ok, Err, Result}
use Rattle.std.proofs.lemmas.List.Edits.{sets}
use Rattle.ledger.specs.declared.Reason.TheVariants.{NumberMisspelt, ListLength}
use Rattle.text.specs.declared.Class.TheVariants.{Item}
use Rattle.text.specs.Scan.{end_of}
use Rattle.text.specs.Pieces.{pieces_of}
use Rattle.numbers.specs.declared.Piece.{Piece}
use Rattle.ledger.specs.Refusals.{require, fault_at}
use Rattle.numbers.specs.Spelling.{fault_in}
use Rattle.numbers.specs.Numbers.{number_of, value}
use Rattle.ledger.specs.declared.Fault.{Fault}

-- the items between the commas; a comma at the very end opens no further item
unfoldable pub items_of : List ℕ → List (List ℕ)
items_of w = pieces_of Item w

-- whether an item ends at a place: by a comma, or with the word
abbrev pub is_item_end : List ℕ → ℕ → Bool
is_item_end w i = leb (length w) i || eqb (get_or w i 0) 44

-- what reading the item at a place promises: what it spells, and where it ends
pub record PieceRead (least most : ℕ) (w : List ℕ) (i : ℕ) (r : Piece) : Type 0 where
  pub is : r.spelt ≡ number_of least most (take (end_of Item w i - i) (drop i w))
  pub ends : r.end ≡ end_of Item w i
  pub low : i ≤ r.end
  pub high : r.end ≤ length w

-- a good item lets the rest be tested; a bad one is refused at its own first byte
abbrev pub or_item : Result ℕ Fault → ℕ → Result ℕ Fault → Result ℕ Fault
or_item (Ok v) at rest = rest
or_item (Err x) at rest = Err (fault_at x.reason at)

-- the items tested from the left: n were good before, and the first of these stands at a place
unfoldable pub test_items : ℕ → ℕ → ℕ → ℕ → List (List ℕ) → Result ℕ Fault
test_items least most n at [] = Ok n
test_items least most n at (x ∷ xs) = or_item (number_of least most x) at (test_items least most (n + 1) (at + length x + 1) xs)

-- the last byte, or d where there is none
unfoldable pub last_byte : ℕ → List ℕ → ℕ
last_byte d [] = d
last_byte d (b ∷ w) = last_byte b w

-- whether an empty item stands at the end: the list is empty, or a comma stands last where none is allowed
unfoldable pub open_end : Bool → List ℕ → Bool
open_end comma w = eqb (length w) 0 || (not comma && eqb (last_byte 0 w) 44)

abbrev pub then_count : Result ℕ Fault → (ℕ → Result ℕ Fault) → Result ℕ Fault
then_count (Ok m) rest = rest m
then_count (Err x) rest = Err x

-- what was found of the items, then an empty one at the end, then their number against a count
unfoldable pub list_end : Bool → ℕ → List ℕ → Result ℕ Fault → Result ℕ Fault
list_end comma n w found =
    then_count found (λ m.
    require (not (open_end comma w)) (Err (fault_at NumberMisspelt (length w)))
    (require (eqb m n) (Err (fault_at ListLength 0))
    (Ok m)))

-- a list of n numbers: all items from the left (4, 5), an empty one at the end among them, and then their number (8)
unfoldable pub list_of : ℕ → ℕ → Bool → ℕ → List ℕ → Result ℕ Fault
list_of least most comma n w = list_end comma n w (test_items least most 0 0 (items_of w))

-- the numbers that the items spell
unfoldable pub values_of : List ℕ → List ℕ
values_of w = map value (items_of w)

abbrev pub or_stop : Result ℕ Fault → List ℕ → List ℕ
or_stop (Ok v) vs = v ∷ vs
or_stop (Err x) vs = []

-- the values of the items before the first bad one: of all items where there is none
unfoldable pub good_values : ℕ → ℕ → List (List ℕ) → List ℕ
good_values least most [] = []
good_values least most (x ∷ xs) = or_stop (number_of least most x) (good_values least most xs)

-- what storing the items promises: what it finds, and the values stored from the table's front, as far as it reaches
pub record ItemsStored (least most : ℕ) (w before after : List ℕ) (r : Result ℕ Fault) : Type 0 where
  pub is : r ≡ test_items least most 0 0 (items_of w)
  pub stored : after ≡ sets before 0 (good_values least most (items_of w))
  pub near : fault_in r ≤ length w

-- what ending a list promises
pub record ListEnded (comma : Bool) (n : ℕ) (w : List ℕ) (found r : Result ℕ Fault) : Type 0 where
  pub is : r ≡ list_end comma n w found
  pub near : fault_in found ≤ length w → fault_in r ≤ length w

-- the table after reading: the values stored from its front as far as it reaches, or the table as it was
abbrev pub table_after : Result ℕ Fault → List ℕ → List ℕ → List ℕ
table_after (Ok m) vs before = sets before 0 vs
table_after (Err x) vs before = before

-- what reading a list promises
pub record ListRead (least most : ℕ) (comma : Bool) (n : ℕ) (w before after : List ℕ) (r : Result ℕ Fault) : Type 0 where
  pub is : r ≡ list_of least most comma n w
  pub stored : after ≡ table_after r (values_of w) before
  pub near : fault_in r ≤ length w
