-- The words of an accepted BED line are in their ranges, and its rows obey the rules of blocks. Assumes nothing.
use mathlib.Core.Path.{◌≡◌, refl, sym, ap, ◌∙◌}
use mathlib.Core.Bool.{true}
use mathlib.Core.List.{List, [], ◌∷◌}
use Prim.Native.Nat.{ℕ, ◌+◌, ◌-◌, ◌≤◌, ◌<◌}
use native.Mathlib.Omega.{arith}
use lib.ListN.{length, get_or, take}
use borrow.Author.Tests.{le-leb, eq-eqb, ne_eqb}
use Rattle.std.specs.Prelude.{Ok}
use Rattle.ledger.specs.declared.Part.{Part}
use Rattle.ledger.specs.Limits.{name_limit, block_limit, largest_position}
use Rattle.text.specs.Words.{word_at, word_count, bytes_of}
use Rattle.text.specs.Pieces.{line_of, words_of}
use Rattle.text.proofs.Laws.{either}
use Rattle.numbers.specs.Lists.{values_of}
use Rattle.kinds.specs.declared.Range.{Range}
use Rattle.kinds.specs.declared.Range.TheVariants.{Coordinate}
use Rattle.kinds.specs.declared.Kind.TheVariants.{Name, Number}
use Rattle.kinds.specs.Kinds.{most_of, spelt}
use Rattle.kinds.proofs.RangeLaws.{number_spelt, count_spelt, name_spelt}
use Rattle.columns.specs.Spells.{firsts}
use Rattle.columns.specs.Names.{part_of}
use Rattle.columns.specs.Places.{kind_at, count_before}
use Rattle.columns.proofs.PlaceLaws.{value_first}
use Rattle.columns.proofs.Meant.{lists_in}
use Rattle.columns.proofs.WordLaws.{word_length}
use Rattle.blocks.specs.Blocks.{blocks_fill, sums_from, sum_of, are_sums, all_between}
use Rattle.blocks.proofs.RuleLaws.{between_is, fill_low, fill_shift, shifted_length, sums_made, sums_length, total_fits, wider}
use Rattle.bed.specs.declared.Bed.{Bed}
use Rattle.bed.specs.Columns as column
use Rattle.bed.specs.Table.{bed_columns}
use Rattle.bed.specs.Records.{bed_sizes, bed_starts, bed_targets, bed_queries}
use Rattle.bed.specs.Read.{bed_check}
use Rattle.bed.specs.Rules.{BedLine}
use Rattle.bed.proofs.ColumnLaws.{least_words, by_number, block_sizes_lem}
use Rattle.bed.proofs.AcceptLaws.{line_values, accepts_of, read_all, accepted_number, accepted_span, accepted_fills, accepted_count, accepted_starts}
use Rattle.bed.proofs.LineLaws.{value_spelt, line_of_lem}

-- sums lie within a number that their total fits into
sums_between : (most acc : ℕ) (zs : List ℕ) → acc + sum_of zs ≤ most → all_between 0 most (sums_from acc zs) ≡ true
unfolding all_between sums_from sum_of
sums_between most acc [] h = refl
sums_between most acc (z ∷ zs) h = rw (le-leb 0 acc (omega arith), le-leb acc most (omega arith)) (sums_between most (acc + z) zs (omega arith))

-- the rows of a record as its rules have them
pub record RowsObey (r : Bed) (ts qs zs : List ℕ) : Type 0 where
  pub some_block : 1 ≤ r.blockCount
  pub few_blocks : r.blockCount ≤ block_limit
  pub targets : length ts ≡ r.blockCount
  pub queries : length qs ≡ r.blockCount
  pub sizes : length zs ≡ r.blockCount
  pub fill : blocks_fill r.chromStart r.chromEnd ts zs ≡ true
  pub sums : are_sums 0 qs zs ≡ true
  pub target_range : all_between 0 largest_position ts ≡ true
  pub query_range : all_between 0 largest_position qs ≡ true
  pub size_range : all_between 1 largest_position zs ≡ true

module _ (s : List ℕ) (r : Bed) (ok : bed_check s ≡ Ok r) where
  abbrev pub vs : List ℕ
  vs = firsts (line_values s)

  abbrev line : BedLine s vs (lists_in (take (word_count s 0) bed_columns) (words_of (line_of s))) r (bed_starts s r) (bed_sizes s r)
  line = line_of_lem s r ok

  abbrev pub before : ℕ → ℕ
  before k = count_before (take (word_count s 0) bed_columns) 0 vs 0 k

  pub value_says : (k : ℕ) → k < r.words → spelt (kind_at bed_columns k) (before k) (bytes_of s (word_at s 0 k)) ≡ Ok (get_or vs k 0)
  value_says k h =
      let a = accepts_of s r ok in
      let l : k < word_count s 0 = omega (arith, line.words) in
      rw (value_first (line_values s) k) (value_spelt s a.end (accepted_number s r ok) a.read k l)

  pub number_at_lem : (k : ℕ) (c : Range) → k < r.words → kind_at bed_columns k ≡ Number c → get_or vs k 0 ≤ most_of c
  number_at_lem k c h q = (number_spelt c (before k) (bytes_of s (word_at s 0 k)) (get_or vs k 0) (rw q at (value_says k h))).1

  pub name_at : (k : ℕ) (p : Part) → k < r.words → kind_at bed_columns k ≡ Name → p ≡ part_of (word_at s 0 k) → (1 ≤ p.length) × (p.length ≤ name_limit)
  name_at k p h q e =
      let c = name_spelt (before k) (bytes_of s (word_at s 0 k)) (get_or vs k 0) (rw q at (value_says k h)) in
      let l : p.length ≡ get_or vs k 0 = ap (λ (x : Part). x.length) e ∙ sym (c.0 ∙ word_length s k) in
      (rw l c.1, rw l c.2)

  pub some_words : 3 ≤ r.words
  some_words = rw line.words (least_words (accepted_number s r ok))

  count_at : (1 ≤ r.blockCount) × (r.blockCount ≤ block_limit)
  unfolding bed_columns
  count_at =
      either r.words column.block_count _
      (λ h. let q = line.no_blocks h in (omega arith, omega arith))
      (λ h.
      let c = count_spelt (before column.block_count) (bytes_of s (word_at s 0 column.block_count)) (get_or vs column.block_count 0) (value_says column.block_count h) in
      rw (line.blockCount h) (c.0, c.1))

  pub accepted_end : r.chromEnd ≤ largest_position
  unfolding bed_columns
  accepted_end = rw line.chromEnd (number_at_lem column.chrom_end Coordinate (omega (arith, some_words)) refl)

  sizes_in : all_between 1 largest_position (bed_sizes s r) ≡ true
  unfolding bed_sizes all_between
  sizes_in =
      by_number (accepted_number s r ok) _ (λ x y.
      let w = line.words in
      let a = accepted_span s r ok in
      let b = accepted_end in
      rw (ne_eqb r.words column.all (λ z. omega arith), le-leb 1 (r.chromEnd - r.chromStart) (omega arith), le-leb (r.chromEnd - r.chromStart) largest_position (omega arith)))
      (λ q.
      let a = accepts_of s r ok in
      rw (eq-eqb r.words column.all (line.words ∙ q)) (between_is 1 largest_position (values_of (bytes_of s (word_at s 0 column.block_sizes))) (block_sizes_lem s a.end (read_all s a.end a.read 0 q) q).1))

  pub accepted_rows : RowsObey r (bed_targets s r) (bed_queries s r) (bed_sizes s r)
  unfolding bed_targets bed_queries
  accepted_rows =
      let filled = accepted_fills s r ok in
      let total = total_fits 0 (r.chromEnd - r.chromStart) (bed_starts s r) (bed_sizes s r) filled in
      let x : r.chromStart + 0 ≡ r.chromStart = omega arith in
      let y : r.chromStart + (r.chromEnd - r.chromStart) ≡ r.chromEnd = omega (arith, accepted_span s r ok) in
      let moved : blocks_fill r.chromStart r.chromEnd (bed_targets s r) (bed_sizes s r) ≡ true = rw (x, y) at (fill_shift r.chromStart 0 (r.chromEnd - r.chromStart) (bed_starts s r) (bed_sizes s r) ∙ filled) in
      record {
        some_block = count_at.0;
        few_blocks = count_at.1;
        targets = shifted_length r.chromStart (bed_starts s r) ∙ accepted_starts s r ok;
        queries = sums_length 0 (bed_sizes s r) ∙ accepted_count s r ok;
        sizes = accepted_count s r ok;
        fill = moved;
        sums = sums_made 0 (bed_sizes s r);
        target_range = wider r.chromStart r.chromEnd 0 largest_position (bed_targets s r) (omega arith) accepted_end (fill_low r.chromStart r.chromEnd (bed_targets s r) (bed_sizes s r) moved);
        query_range = sums_between largest_position 0 (bed_sizes s r) (omega (arith, accepted_end));
        size_range = sizes_in;
      }
