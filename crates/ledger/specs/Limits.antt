-- The limits of 01, "Words, numbers, sizes", each under one name.
use Rattle.std.specs.Prelude.{ℕ, Bool, leb}

-- bytes of a text
abbrev pub text_limit : ℕ
text_limit = 65536

-- bytes of a name
abbrev pub name_limit : ℕ
name_limit = 64

-- blocks of a record
abbrev pub block_limit : ℕ
block_limit = 512

-- a coordinate, a size, a PSL count: what a position may be
abbrev pub largest_position : ℕ
largest_position = 2147483647

-- the score of a chain
abbrev pub chain_score_limit : ℕ
chain_score_limit = 999999999999999999

-- the id of a chain
abbrev pub chain_id_limit : ℕ
chain_id_limit = 4294967295

-- the score of a BED line
abbrev pub bed_score_limit : ℕ
bed_score_limit = 1000

-- each number of a colour
abbrev pub colour_limit : ℕ
colour_limit = 255

-- each field of a tally
abbrev pub tally_limit : ℕ
tally_limit = 9223372036854775807

-- the largest place that a word of the machine holds; no text, buffer or table is longer
abbrev pub largest_place : ℕ
largest_place = 18446744073709551615

-- the largest number that a word of the machine holds
abbrev pub largest_number : ℕ
largest_number = largest_place

-- whether a number is a coordinate
abbrev pub in_coordinates : ℕ → Bool
in_coordinates n = leb n largest_position
