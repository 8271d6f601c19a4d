-- BED's columns by their number, counted from 0, in the words of the UCSC page; and how many there are.
use Rattle.std.specs.Prelude.{ℕ}

abbrev pub chrom : ℕ
chrom = 0

abbrev pub chrom_start : ℕ
chrom_start = 1

abbrev pub chrom_end : ℕ
chrom_end = 2

abbrev pub name : ℕ
name = 3

abbrev pub score : ℕ
score = 4

abbrev pub strand : ℕ
strand = 5

abbrev pub thick_start : ℕ
thick_start = 6

abbrev pub thick_end : ℕ
thick_end = 7

abbrev pub item_rgb : ℕ
item_rgb = 8

abbrev pub block_count : ℕ
block_count = 9

abbrev pub block_sizes : ℕ
block_sizes = 10

abbrev pub block_starts : ℕ
block_starts = 11

abbrev pub all : ℕ
all = 12
