-- The kinds of column: what a word of each kind spells, or why it is refused.
use Rattle.std.specs.Prelude.{ℕ, suc, ◌+◌, ◌*◌, ◌≤◌, ◌≡◌, Bool, true, false, ◌&&◌, ◌||◌, cond, List, [], ◌∷◌, length, get_or, leb, eqb, Ok, Err, Result}
use Rattle.std.proofs.lemmas.List.Edits.{sets}
use Rattle.ledger.specs.Limits.{largest_position, name_limit, block_limit, chain_score_limit, chain_id_limit, bed_score_limit, colour_limit}
use Rattle.ledger.specs.Strands.{strand_letter}
use Rattle.ledger.specs.declared.Strand.TheVariants.{Plus, Minus, Dot}
use Rattle.ledger.specs.declared.Reason.TheVariants.{BadWord}
use Rattle.ledger.specs.Refusals.{require, fault_at}
use Rattle.numbers.specs.Spelling.{fault_in}
use Rattle.numbers.specs.Numbers.{number_of}
use Rattle.numbers.specs.Lists.{items_of, list_of, values_of, good_values, then_count}
use Rattle.kinds.specs.declared.Range.{Range}
use Rattle.kinds.specs.declared.Range.TheVariants.{Coordinate, Size, BedScore, ChainScore, ChainId, BlockCount}
use Rattle.kinds.specs.declared.Fixed.{Fixed}
use Rattle.kinds.specs.declared.Fixed.TheVariants as fixed
use Rattle.kinds.specs.declared.Kind.{Kind}
use Rattle.kinds.specs.declared.Kind.TheVariants.{Name, Number, Count, Items, Stranded, Word, Colour}
use Rattle.ledger.specs.declared.Fault.{Fault}

-- the ranges of numbers: least and greatest value
abbrev pub least_of : Range → ℕ
least_of Coordinate = 0
least_of Size = 1
least_of BedScore = 0
least_of ChainScore = 0
least_of ChainId = 0
least_of BlockCount = 1

abbrev pub most_of : Range → ℕ
most_of Coordinate = largest_position
most_of Size = largest_position
most_of BedScore = bed_score_limit
most_of ChainScore = chain_score_limit
most_of ChainId = chain_id_limit
most_of BlockCount = block_limit

-- the words that a format fixes: `chain`, `+`
abbrev pub fixed_text : Fixed → List ℕ
fixed_text fixed.Chain = 99 ∷ 104 ∷ 97 ∷ 105 ∷ 110 ∷ []
fixed_text fixed.Plus = 43 ∷ []

-- a strand is one letter; `.` is one where three are allowed
abbrev pub is_strand : Bool → List ℕ → Bool
is_strand dot w = eqb (length w) 1 && (eqb (get_or w 0 0) (strand_letter Plus) || (eqb (get_or w 0 0) (strand_letter Minus) || (dot && eqb (get_or w 0 0) (strand_letter Dot))))

unfoldable pub same_bytes : List ℕ → List ℕ → Bool
same_bytes [] [] = true
same_bytes [] (y ∷ ys) = false
same_bytes (x ∷ xs) [] = false
same_bytes (x ∷ xs) (y ∷ ys) = eqb x y && same_bytes xs ys

-- three numbers of a colour as one
abbrev pub packed : ℕ → ℕ → ℕ → ℕ
packed r g b = (r * suc colour_limit + g) * suc colour_limit + b

-- a colour is the word `0`, or three numbers parted by commas with none at the end
unfoldable pub colour_of : List ℕ → Result ℕ Fault
colour_of w =
    cond (same_bytes w (48 ∷ [])) (Ok 0)
    (then_count (list_of 0 colour_limit false 3 w) (λ m. Ok (packed (get_or (values_of w) 0 0) (get_or (values_of w) 1 0) (get_or (values_of w) 2 0))))

-- a word that is good or not as a whole (6)
abbrev pub whole_of : Bool → ℕ → Result ℕ Fault
whole_of good v = require good (Err (fault_at BadWord 0)) (Ok v)

-- a name has 1 to 64 bytes; it means its length
unfoldable pub name_of : List ℕ → Result ℕ Fault
name_of w = whole_of (leb 1 (length w) && leb (length w) name_limit) (length w)

-- a strand means its letter
unfoldable pub strand_of : Bool → List ℕ → Result ℕ Fault
strand_of dot w = whole_of (is_strand dot w) (get_or w 0 0)

-- a fixed word means nothing
unfoldable pub fixed_of : Fixed → List ℕ → Result ℕ Fault
fixed_of f w = whole_of (same_bytes w (fixed_text f)) 0

-- what a word of a kind spells, n being the last count before it; a list means its length
unfoldable pub spelt : Kind → ℕ → List ℕ → Result ℕ Fault
spelt Name n w = name_of w
spelt (Number r) n w = number_of (least_of r) (most_of r) w
spelt Count n w = number_of (least_of BlockCount) (most_of BlockCount) w
spelt (Items r) n w = list_of (least_of r) (most_of r) true n w
spelt (Stranded dot) n w = strand_of dot w
spelt (Word f) n w = fixed_of f w
spelt Colour n w = colour_of w

-- the numbers of a list that are stored: those of its items up to the first bad one
abbrev pub items_in : Kind → List ℕ → List ℕ
items_in Name w = []
items_in (Number r) w = []
items_in Count w = []
items_in (Items r) w = good_values (least_of r) (most_of r) (items_of w)
items_in (Stranded dot) w = []
items_in (Word f) w = []
items_in Colour w = []

-- the count that lists after this column answer to
abbrev pub count_after : Kind → ℕ → ℕ → ℕ
count_after Name v n = n
count_after (Number r) v n = n
count_after Count v n = v
count_after (Items r) v n = n
count_after (Stranded dot) v n = n
count_after (Word f) v n = n
count_after Colour v n = n

abbrev pub is_list : Kind → Bool
is_list Name = false
is_list (Number r) = false
is_list Count = false
is_list (Items r) = true
is_list (Stranded dot) = false
is_list (Word f) = false
is_list Colour = false

-- where the next list is stored: room for so many numbers each
abbrev pub pick_base : Bool → ℕ → ℕ → ℕ
pick_base true stride base = base + stride
pick_base false stride base = base

abbrev pub base_by : ℕ → Kind → ℕ → ℕ
base_by stride k base = pick_base (is_list k) stride base

-- and room for a record's blocks each
abbrev pub base_after : Kind → ℕ → ℕ
base_after k base = base_by block_limit k base

-- what reading one word promises: what it spells, and that a fault lies in it, which follows
pub record WordRead (x : Result ℕ Fault) (w : List ℕ) (r : Result ℕ Fault) : Type 0 where
  pub is : r ≡ x
  pub near : fault_in r ≤ length w

-- and, of a word that may be a list, its numbers, stored in a table from a base on
pub record Spelled (x : Result ℕ Fault) (w held : List ℕ) (base : ℕ) (before after : List ℕ) (r : Result ℕ Fault) : Type 0 where
  pub is : r ≡ x
  pub near : fault_in r ≤ length w
  pub stored : after ≡ sets before base held
