-- An accepted PSL line is a valid record with its rows. Assumes nothing.
use mathlib.Core.Path.{◌≡◌, refl, sym, ap, ◌∙◌}
use mathlib.Core.Bool.{true, false}
use mathlib.Core.List.{List, [], ◌∷◌}
use Prim.Native.Nat.{ℕ, ◌≤◌, ◌<◌}
use native.Mathlib.Omega.{arith}
use lib.ListN.{get_or, take}
use lib.Seq.{take_all}
use Rattle.ledger.specs.declared.Part.{Part}
use Rattle.ledger.specs.declared.Strand.TheVariants.{Dot}
use Rattle.ledger.specs.Limits.{name_limit, block_limit, largest_position}
use Rattle.ledger.specs.Strands.{strand_letter}
use Rattle.text.specs.Words.{word_at, bytes_of}
use Rattle.text.specs.Pieces.{line_of, words_of}
use Rattle.kinds.specs.declared.Range.{Range}
use Rattle.kinds.specs.declared.Range.TheVariants.{Coordinate, Size}
use Rattle.kinds.specs.declared.Kind.TheVariants.{Name, Number}
use Rattle.kinds.specs.Kinds.{least_of, most_of, spelt, is_strand}
use Rattle.kinds.proofs.RangeLaws.{number_spelt, count_spelt, name_spelt}
use Rattle.columns.specs.Columns.{value_of}
use Rattle.columns.specs.Spells.{firsts}
use Rattle.columns.specs.Places.{kind_at, count_before}
use Rattle.columns.proofs.PlaceLaws.{value_first}
use Rattle.columns.proofs.Meant.{lists_in}
use Rattle.blocks.proofs.RuleLaws.{between_is, ranged_of}
use Rattle.psl.specs.declared.Psl.{Psl}
use Rattle.psl.specs.Columns as column
use Rattle.psl.specs.Table.{psl_columns}
use Rattle.psl.specs.Records.{psl_sizes, psl_queries, psl_targets}
use Rattle.psl.specs.Read.{psl_check}
use Rattle.psl.specs.Tests.{psl_valid}
use Rattle.psl.specs.Rules.{SideRange, PslLine, PslRules}
use Rattle.psl_laws.proofs.RuleLaws.{rules_is}
use Rattle.psl_laws.proofs.LineLaws.{line_values, Accepts, accepts_of, value_spelt, letter_told, sizes_are, queries_are, targets_are, accepted_targets, accepted_queries, accepted_sizes, line_of_lem}
use Rattle.columns.specs.Names.{part_of}
use Rattle.columns.proofs.WordLaws.{word_length}
use Rattle.std.specs.Prelude.{Ok}

module _ (s : List ℕ) (r : Psl) (ok : psl_check s ≡ Ok r) where
  abbrev a : Accepts s r
  a = accepts_of s r ok

  abbrev vs : List ℕ
  vs = firsts (line_values s)

  abbrev line : PslLine s vs (lists_in psl_columns (words_of (line_of s))) r (psl_targets s) (psl_queries s) (psl_sizes s)
  line = line_of_lem s r ok

  abbrev before : ℕ → ℕ
  before k = count_before psl_columns 0 vs 0 k

  -- the words' values in their ranges
  value_says : (k : ℕ) → k < column.count → spelt (kind_at psl_columns k) (before k) (bytes_of s (word_at s 0 k)) ≡ Ok (get_or vs k 0)
  value_says k h = rw (value_first (line_values s) k) (value_spelt s a.end a.read k h)

  number_at : (k : ℕ) (c : Range) → k < column.count → kind_at psl_columns k ≡ Number c → (least_of c ≤ get_or vs k 0) × (get_or vs k 0 ≤ most_of c)
  number_at k c h q = number_spelt c (before k) (bytes_of s (word_at s 0 k)) (get_or vs k 0) (rw q at (value_says k h))

  name_at : (k : ℕ) (p : Part) → k < column.count → kind_at psl_columns k ≡ Name → p ≡ part_of (word_at s 0 k) → (1 ≤ p.length) × (p.length ≤ name_limit)
  name_at k p h q e =
      let c = name_spelt (before k) (bytes_of s (word_at s 0 k)) (get_or vs k 0) (rw q at (value_says k h)) in
      let l : p.length ≡ get_or vs k 0 = ap (λ (x : Part). x.length) e ∙ sym (c.0 ∙ word_length s k) in
      (rw l c.1, rw l c.2)

  count_at : (1 ≤ r.blockCount) × (r.blockCount ≤ block_limit)
  unfolding psl_columns
  count_at =
      let c = count_spelt (before column.block_count) (bytes_of s (word_at s 0 column.block_count)) (get_or vs column.block_count 0) (value_says column.block_count (omega arith)) in
      rw line.blockCount (c.0, c.1)

  told : r.strand ≡ Dot → ⊥
  told e =
      let l : value_of (line_values s) column.strand ≡ strand_letter Dot = sym (value_first (line_values s) column.strand) ∙ sym line.strand ∙ ap strand_letter e in
      let h : is_strand false (strand_letter Dot ∷ []) ≡ true = rw l at (letter_told s a.end a.read) in
      let z : ◌≡◌ {A = ℕ} 0 1 = cc in
      omega arith

  query_range : SideRange r.query
  unfolding psl_columns
  query_range =
      let x = line.query in
      let name = name_at column.q_name r.query.name (omega arith) refl x.name in
      let size = number_at column.q_size Size (omega arith) refl in
      record {
        name_some = name.0;
        name_short = name.1;
        size_some = rw x.size size.0;
        size_range = rw x.size size.1;
        start_range = rw x.start (number_at column.q_start Coordinate (omega arith) refl).1;
        end_range = rw x.end (number_at column.q_end Coordinate (omega arith) refl).1;
      }

  target_range : SideRange r.target
  unfolding psl_columns
  target_range =
      let x = line.target in
      let name = name_at column.t_name r.target.name (omega arith) refl x.name in
      let size = number_at column.t_size Size (omega arith) refl in
      record {
        name_some = name.0;
        name_short = name.1;
        size_some = rw x.size size.0;
        size_range = rw x.size size.1;
        start_range = rw x.start (number_at column.t_start Coordinate (omega arith) refl).1;
        end_range = rw x.end (number_at column.t_end Coordinate (omega arith) refl).1;
      }

  -- all rows are used
  targets_all : take r.blockCount (psl_targets s) ≡ psl_targets s
  targets_all = take_all r.blockCount (psl_targets s) (omega (arith, accepted_targets s r ok))

  queries_all : take r.blockCount (psl_queries s) ≡ psl_queries s
  queries_all = take_all r.blockCount (psl_queries s) (omega (arith, accepted_queries s r ok))

  sizes_all : take r.blockCount (psl_sizes s) ≡ psl_sizes s
  sizes_all = take_all r.blockCount (psl_sizes s) (omega (arith, accepted_sizes s r ok))

  -- THE RULES OF AN ACCEPTED LINE'S RECORD
  pub accepted_rules : PslRules r (psl_targets s) (psl_queries s) (psl_sizes s)
  unfolding psl_columns
  accepted_rules =
      let n = r.blockCount in
      let lt = accepted_targets s r ok in
      let lq = accepted_queries s r ok in
      let lz = accepted_sizes s r ok in
      record {
        rows = record {
          some_block = count_at.0;
          few_blocks = count_at.1;
          target_rows = omega arith;
          query_rows = omega arith;
          size_rows = omega arith;
          target_range = ranged_of 0 largest_position n (psl_targets s) lt (between_is 0 largest_position (psl_targets s) (targets_are s a.end a.read).0);
          query_range = ranged_of 0 largest_position n (psl_queries s) lq (between_is 0 largest_position (psl_queries s) (queries_are s a.end a.read).0);
          size_range = ranged_of 1 largest_position n (psl_sizes s) lz (between_is 1 largest_position (psl_sizes s) (sizes_are s a.end a.read).0);
        };
        strand = told;
        query_range = query_range;
        target_range = target_range;
        matches_range = rw line.matches (number_at column.matches Coordinate (omega arith) refl).1;
        mis_matches_range = rw line.misMatches (number_at column.mis_matches Coordinate (omega arith) refl).1;
        rep_matches_range = rw line.repMatches (number_at column.rep_matches Coordinate (omega arith) refl).1;
        n_count_range = rw line.nCount (number_at column.n_count Coordinate (omega arith) refl).1;
        q_num_insert_range = rw line.qNumInsert (number_at column.q_num_insert Coordinate (omega arith) refl).1;
        q_base_insert_range = rw line.qBaseInsert (number_at column.q_base_insert Coordinate (omega arith) refl).1;
        t_num_insert_range = rw line.tNumInsert (number_at column.t_num_insert Coordinate (omega arith) refl).1;
        t_base_insert_range = rw line.tBaseInsert (number_at column.t_base_insert Coordinate (omega arith) refl).1;
        query_span = line.query_span;
        target_span = line.target_span;
        target_blocks = line.target_blocks;
        query_blocks = line.query_blocks;
        counts = rw (targets_all, queries_all, sizes_all) line.counts;
      }

  -- so its record passes the test
  pub accepted_valid : psl_valid r (psl_targets s) (psl_queries s) (psl_sizes s) ≡ true
  accepted_valid = rules_is r (psl_targets s) (psl_queries s) (psl_sizes s) accepted_rules
