-- Blocks as flat lists: where each starts on one side, and its size. A record's count says how many of a table's first rows are its blocks.
use Rattle.std.specs.Prelude.{ℕ, suc, ◌+◌, ◌-◌, min, Bool, true, false, ◌&&◌, List, [], ◌∷◌, length, leb, ltb, eqb}
use Rattle.ledger.specs.Limits.{block_limit, largest_position, largest_number}

-- after a block that starts at s with size z: each further block starts at or after the end of the one before, and the last ends at a place
unfoldable pub order_from : ℕ → ℕ → ℕ → List ℕ → List ℕ → Bool
order_from s z last [] [] = eqb (s + z) last
order_from s z last [] (y ∷ zs) = false
order_from s z last (x ∷ ss) [] = false
order_from s z last (x ∷ ss) (y ∷ zs) = leb (s + z) x && order_from x y last ss zs

-- blocks fill a span: the first starts at its start, they are in order, and the last ends at its end; touching blocks are in order
unfoldable pub blocks_fill : ℕ → ℕ → List ℕ → List ℕ → Bool
blocks_fill first last [] zs = false
blocks_fill first last (x ∷ ss) [] = false
blocks_fill first last (x ∷ ss) (y ∷ zs) = eqb x first && order_from x y last ss zs

-- the sums of the earlier sizes, a sum before the first
unfoldable pub sums_from : ℕ → List ℕ → List ℕ
sums_from acc [] = []
sums_from acc (z ∷ zs) = acc ∷ sums_from (acc + z) zs

-- whether the numbers q are those sums
unfoldable pub are_sums : ℕ → List ℕ → List ℕ → Bool
are_sums acc [] [] = true
are_sums acc [] (z ∷ zs) = false
are_sums acc (q ∷ qs) [] = false
are_sums acc (q ∷ qs) (z ∷ zs) = eqb q acc && are_sums (acc + z) qs zs

-- a list where a test holds, and else none
abbrev pub only_if : Bool → List ℕ → List ℕ
only_if true xs = xs
only_if false xs = []

-- the sums of the earlier sizes, as long as they are no more than a number
unfoldable pub sums_within : ℕ → ℕ → List ℕ → List ℕ
sums_within most acc [] = []
sums_within most acc (z ∷ zs) = acc ∷ only_if (leb (acc + z) most) (sums_within most (acc + z) zs)

-- a number, or the largest that a word of the machine holds
abbrev pub capped : ℕ → ℕ
capped n = min n largest_number

-- the sum of a list
unfoldable pub sum_of : List ℕ → ℕ
sum_of [] = 0
sum_of (z ∷ zs) = z + sum_of zs

-- whether all numbers lie in a range
unfoldable pub all_between : ℕ → ℕ → List ℕ → Bool
all_between least most [] = true
all_between least most (v ∷ vs) = (leb least v && leb v most) && all_between least most vs

-- the numbers of used rows in their ranges: starts from 0, sizes from 1
unfoldable pub row_numbers_fit : List ℕ → List ℕ → List ℕ → Bool
row_numbers_fit ts qs zs = all_between 0 largest_position ts && (all_between 0 largest_position qs && all_between 1 largest_position zs)

-- a span within its sequence: start < end ≤ size
abbrev pub span_fits : ℕ → ℕ → ℕ → Bool
span_fits start end size = ltb start end && leb end size

-- numbers moved up by a, and down by a
unfoldable pub shifted : ℕ → List ℕ → List ℕ
shifted a [] = []
shifted a (x ∷ xs) = (a + x) ∷ shifted a xs

-- numbers moved up by a, as long as they are no more than a number
unfoldable pub shifted_within : ℕ → ℕ → List ℕ → List ℕ
shifted_within most a [] = []
shifted_within most a (x ∷ xs) = only_if (leb (a + x) most) ((a + x) ∷ shifted_within most a xs)

unfoldable pub subtracted : ℕ → List ℕ → List ℕ
subtracted a [] = []
subtracted a (x ∷ xs) = (x - a) ∷ subtracted a xs

-- the number of rows of a table of three flat slices
abbrev pub rows_of : List ℕ → List ℕ → List ℕ → ℕ
rows_of ts qs zs = min (length ts) (min (length qs) (length zs))

-- whether a count of blocks is one: not 0, not over the limit, not past the table
abbrev pub count_fits : ℕ → ℕ → Bool
count_fits n rows = leb 1 n && (leb n block_limit && leb n rows)

abbrev pub one_gap : Bool → ℕ → ℕ
one_gap true n = suc n
one_gap false n = n

-- the nonempty gaps after a block that starts at s with size z, and their bases
unfoldable pub gaps_from : ℕ → ℕ → List ℕ → List ℕ → ℕ
gaps_from s z [] zs = 0
gaps_from s z (x ∷ ss) [] = 0
gaps_from s z (x ∷ ss) (y ∷ zs) = one_gap (ltb (s + z) x) (gaps_from x y ss zs)

unfoldable pub bases_from : ℕ → ℕ → List ℕ → List ℕ → ℕ
bases_from s z [] zs = 0
bases_from s z (x ∷ ss) [] = 0
bases_from s z (x ∷ ss) (y ∷ zs) = (x - (s + z)) + bases_from x y ss zs

-- the gaps between blocks that are not empty: how many, and their bases
unfoldable pub gap_count : List ℕ → List ℕ → ℕ
gap_count [] zs = 0
gap_count (x ∷ ss) [] = 0
gap_count (x ∷ ss) (y ∷ zs) = gaps_from x y ss zs

unfoldable pub gap_bases : List ℕ → List ℕ → ℕ
gap_bases [] zs = 0
gap_bases (x ∷ ss) [] = 0
gap_bases (x ∷ ss) (y ∷ zs) = bases_from x y ss zs
