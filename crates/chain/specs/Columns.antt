-- The columns of a chain's lines by number, in the order and the words of the UCSC page.
use Rattle.std.specs.Prelude.{ℕ}

-- ---- the header: the word `chain` is column 0
abbrev pub score : ℕ
score = 1

abbrev pub t_name : ℕ
t_name = 2

abbrev pub t_size : ℕ
t_size = 3

abbrev pub t_start : ℕ
t_start = 5

abbrev pub t_end : ℕ
t_end = 6

abbrev pub q_name : ℕ
q_name = 7

abbrev pub q_size : ℕ
q_size = 8

abbrev pub q_strand : ℕ
q_strand = 9

abbrev pub q_start : ℕ
q_start = 10

abbrev pub q_end : ℕ
q_end = 11

abbrev pub id : ℕ
id = 12

-- so many columns
abbrev pub header_count : ℕ
header_count = 13

-- ---- a block line
abbrev pub size : ℕ
size = 0

abbrev pub dt : ℕ
dt = 1

abbrev pub dq : ℕ
dq = 2

-- so many columns, and of the last block line so many
abbrev pub gap_count : ℕ
gap_count = 3

abbrev pub last_count : ℕ
last_count = 1
