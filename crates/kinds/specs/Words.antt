-- The standard text of a word, kind by kind.
use Rattle.std.specs.Prelude.{cond, ℕ, suc, ◌/◌, ◌%◌, List, [], ◌∷◌, ◌++◌, take, drop, eqb}
use Rattle.ledger.specs.Limits.{colour_limit}
use Rattle.writing.specs.Digits.{digits, list_text}
use Rattle.kinds.specs.declared.Kind.{Kind}
use Rattle.kinds.specs.declared.Kind.TheVariants.{Name, Number, Count, Items, Stranded, Word, Colour}
use Rattle.kinds.specs.Kinds.{fixed_text}

-- the three numbers of a colour
abbrev pub red_of : ℕ → ℕ
red_of v = v / suc colour_limit / suc colour_limit

abbrev pub green_of : ℕ → ℕ
green_of v = v / suc colour_limit % suc colour_limit

abbrev pub blue_of : ℕ → ℕ
blue_of v = v % suc colour_limit

-- `0` for black, else three numbers and two commas
unfoldable pub colour_text : ℕ → List ℕ
colour_text v = cond (eqb v 0) (48 ∷ []) (digits (red_of v) ++ (44 ∷ (digits (green_of v) ++ (44 ∷ digits (blue_of v)))))

-- the word of a column whose value is v; a name stands in the text t from p on, a list in the table ls from a base on
abbrev pub word_of : Kind → List ℕ → List ℕ → ℕ → ℕ → ℕ → List ℕ
word_of Name t ls base v p = take v (drop p t)
word_of (Number r) t ls base v p = digits v
word_of Count t ls base v p = digits v
word_of (Items r) t ls base v p = list_text (take v (drop base ls))
word_of (Stranded dot) t ls base v p = (v % 256) ∷ []
word_of (Word f) t ls base v p = fixed_text f
word_of Colour t ls base v p = colour_text v
