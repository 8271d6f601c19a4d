-- Names: where they stand in a text, what they may be, and two of them in a text of their own, for a line writer: the first at its front, the second after the
-- room for a name.
use Rattle.std.specs.Prelude.{ℕ, ◌-◌, ◌≡◌, Bool, ◌&&◌, List, length, take, drop, leb}
use Rattle.std.proofs.lemmas.List.Edits.{sets}
use Rattle.ledger.specs.declared.Part.{Part}
use Rattle.ledger.specs.Limits.{name_limit}
use Rattle.text.specs.declared.Class.TheVariants.{Graphic}
use Rattle.text.specs.declared.Extent.{Extent}
use Rattle.text.specs.Scan.{end_of}

unfoldable pub names_in : List ℕ → List ℕ → List ℕ → List ℕ
names_in first second room = sets (sets room 0 first) name_limit second

-- both names stand there
pub record NamesPut (first second names : List ℕ) : Type 0 where
  pub first_at : take (length first) (drop 0 names) ≡ first
  pub second_at : take (length second) (drop name_limit names) ≡ second

-- the part of a text that a word stands in
abbrev pub part_of : Extent → Part
part_of w = record { start = w.start; length = w.end - w.start }

-- a name's length
abbrev pub length_fits : ℕ → Bool
length_fits n = leb 1 n && leb n name_limit

-- bytes that all show: 33 to 126
abbrev pub all_graphic : List ℕ → Bool
all_graphic w = leb (length w) (end_of Graphic w 0)
