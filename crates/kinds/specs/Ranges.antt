-- Which values a column of a kind may hold: those that its standard text spells back.
use Rattle.std.specs.Prelude.{ℕ, suc, ◌*◌, ◌≤◌, ◌<◌, true, ◌≡◌, List, [], ◌∷◌, length, take, drop}
use Rattle.ledger.specs.Limits.{name_limit, colour_limit}
use Rattle.text.specs.declared.Class.TheVariants.{Graphic}
use Rattle.text.specs.Scan.{run}
use Rattle.numbers.specs.Ranges.{Between}
use Rattle.kinds.specs.declared.Range.TheVariants.{BlockCount}
use Rattle.kinds.specs.declared.Kind.{Kind}
use Rattle.kinds.specs.declared.Kind.TheVariants.{Name, Number, Count, Items, Stranded, Word, Colour}
use Rattle.kinds.specs.Kinds.{least_of, most_of, is_strand}

-- a name is 1 to 64 graphic bytes of the text t
pub record NameIn (t : List ℕ) (v p : ℕ) : Type 0 where
  pub some : 1 ≤ v
  pub short : v ≤ name_limit
  pub there : length (take v (drop p t)) ≡ v
  pub shows : run Graphic (take v (drop p t)) ≡ v

-- a list has as many numbers as the last count n says, at least one, each in its range
pub record ListIn (least most : ℕ) (ls : List ℕ) (n base v : ℕ) : Type 0 where
  pub some : 1 ≤ v
  pub count : v ≡ n
  pub there : length (take v (drop base ls)) ≡ v
  pub range : Between least most (take v (drop base ls))

-- what a column of a kind may hold
abbrev pub InRange : Kind → List ℕ → List ℕ → ℕ → ℕ → ℕ → ℕ → Type 0
InRange Name t ls n base v p = NameIn t v p
InRange (Number r) t ls n base v p = (least_of r ≤ v) × (v ≤ most_of r)
InRange Count t ls n base v p = (least_of BlockCount ≤ v) × (v ≤ most_of BlockCount)
InRange (Items r) t ls n base v p = ListIn (least_of r) (most_of r) ls n base v
InRange (Stranded dot) t ls n base v p = is_strand dot (v ∷ []) ≡ true
InRange (Word f) t ls n base v p = v ≡ 0
InRange Colour t ls n base v p = v < suc colour_limit * suc colour_limit * suc colour_limit

-- the numbers of a list
abbrev pub list_in : Kind → List ℕ → ℕ → ℕ → List ℕ
list_in Name ls base v = []
list_in (Number r) ls base v = []
list_in Count ls base v = []
list_in (Items r) ls base v = take v (drop base ls)
list_in (Stranded dot) ls base v = []
list_in (Word f) ls base v = []
list_in Colour ls base v = []
