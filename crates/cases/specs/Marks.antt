-- Lent room that still holds its marks.
use Rattle.std.specs.Prelude.{ℕ, Bool, true, ◌&&◌, List, [], ◌∷◌, eqb, Ok, Err, Result}
use Rattle.ledger.specs.declared.Row.{Row}
use Rattle.ledger.specs.declared.Refusal.{Refusal}

-- the rows of a lent table, more than a record's blocks
abbrev pub table_rows : ℕ
table_rows = 600

abbrev pub marked_row : Row
marked_row = record { target = 7; query = 7; size = 7 }

unfoldable pub all_marked : List ℕ → Bool
all_marked [] = true
all_marked (v ∷ vs) = eqb v 7 && all_marked vs

-- the number of bytes that a writer wrote
abbrev pub wrote_length : Result ℕ Refusal → ℕ
wrote_length (Ok n) = n
wrote_length (Err x) = 0
