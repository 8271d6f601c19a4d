-- Blocks as rows, each of target start, query start and size: the table that three flat slices make, and the flat lists of a table.
use Rattle.std.specs.Prelude.{ℕ, ◌+◌, List, [], ◌∷◌, map, get_or}
use Rattle.ledger.specs.declared.Row.{Row}

abbrev pub row_as : ℕ → ℕ → ℕ → Row
row_as t q z = record { target = t; query = q; size = z }

-- the rows of three flat slices, as many as the shortest has
unfoldable pub table_of : List ℕ → List ℕ → List ℕ → List Row
table_of [] qs zs = []
table_of (t ∷ ts) [] zs = []
table_of (t ∷ ts) (q ∷ qs) [] = []
table_of (t ∷ ts) (q ∷ qs) (z ∷ zs) = row_as t q z ∷ table_of ts qs zs

-- the flat lists of a table
abbrev pub targets_of : List Row → List ℕ
targets_of rows = map (λ (b : Row). b.target) rows

abbrev pub queries_of : List Row → List ℕ
queries_of rows = map (λ (b : Row). b.query) rows

abbrev pub sizes_of : List Row → List ℕ
sizes_of rows = map (λ (b : Row). b.size) rows

-- a block's end on each side
abbrev pub target_end : Row → ℕ
target_end b = b.target + b.size

abbrev pub query_end : Row → ℕ
query_end b = b.query + b.size

-- the row at a place, and what stands past the last
abbrev pub no_row : Row
no_row = row_as 0 0 0

abbrev pub row_at : List ℕ → List ℕ → List ℕ → ℕ → Row
row_at ts qs zs i = row_as (get_or ts i 0) (get_or qs i 0) (get_or zs i 0)
