-- The columns of a PSL line by their numbers, in the order and the words of the UCSC page.
use Rattle.std.specs.Prelude.{ℕ}

abbrev pub matches : ℕ
matches = 0

abbrev pub mis_matches : ℕ
mis_matches = 1

abbrev pub rep_matches : ℕ
rep_matches = 2

abbrev pub n_count : ℕ
n_count = 3

abbrev pub q_num_insert : ℕ
q_num_insert = 4

abbrev pub q_base_insert : ℕ
q_base_insert = 5

abbrev pub t_num_insert : ℕ
t_num_insert = 6

abbrev pub t_base_insert : ℕ
t_base_insert = 7

abbrev pub strand : ℕ
strand = 8

abbrev pub q_name : ℕ
q_name = 9

abbrev pub q_size : ℕ
q_size = 10

abbrev pub q_start : ℕ
q_start = 11

abbrev pub q_end : ℕ
q_end = 12

abbrev pub t_name : ℕ
t_name = 13

abbrev pub t_size : ℕ
t_size = 14

abbrev pub t_start : ℕ
t_start = 15

abbrev pub t_end : ℕ
t_end = 16

abbrev pub block_count : ℕ
block_count = 17

abbrev pub block_sizes : ℕ
block_sizes = 18

abbrev pub q_starts : ℕ
q_starts = 19

abbrev pub t_starts : ℕ
t_starts = 20

-- so many columns
abbrev pub count : ℕ
count = 21
