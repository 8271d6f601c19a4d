-- A text that is in standard form already: its line and a feed are the standard text of its own record.
use Rattle.std.specs.Prelude.{ℕ, ◌≡◌, List, [], ◌∷◌, ◌++◌, Ok}
use Rattle.text.specs.Parts.{part_bytes}
use Rattle.text.specs.Pieces.{line_of}
use Rattle.bed.specs.declared.Bed.{Bed}
use Rattle.bed.specs.Records.{bed_targets, bed_sizes}
use Rattle.bed.specs.Read.{bed_check}
use Rattle.bed.specs.Write.{bed_text}

-- accepted as a record whose standard text is the text's line and a feed
pub record Standard (s : List ℕ) : Type 0 where
  pub bed : Bed
  pub accepted : bed_check s ≡ Ok bed
  pub same : bed_text bed (part_bytes s bed.chrom) (part_bytes s bed.name) (bed_targets s bed) (bed_sizes s bed) ≡ line_of s ++ (10 ∷ [])
