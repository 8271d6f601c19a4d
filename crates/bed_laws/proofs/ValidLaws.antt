-- An accepted BED line is a valid record: its fields are in their ranges, and its rows obey the rules of blocks. Assumes nothing.
use mathlib.Core.Path.{◌≡◌, refl, ap}
use mathlib.Core.Bool.{true}
use mathlib.Core.List.{List}
use Prim.Native.Nat.{ℕ, ◌≤◌}
use native.Mathlib.Omega.{arith}
use lib.ListN.{get_or}
use Rattle.std.specs.Prelude.{Ok}
use Rattle.ledger.specs.declared.Part.{Part}
use Rattle.ledger.specs.Limits.{largest_position}
use Rattle.text.specs.Words.{word_at, bytes_of}
use Rattle.kinds.specs.declared.Range.TheVariants.{Coordinate, BedScore}
use Rattle.kinds.proofs.RangeLaws.{colour_spelt}
use Rattle.blocks.proofs.RuleLaws.{fills_of, sums_of, ranged_of}
use Rattle.bed.specs.declared.Bed.{Bed}
use Rattle.bed.specs.Columns as column
use Rattle.bed.specs.Table.{bed_columns}
use Rattle.bed.specs.Records.{bed_sizes, bed_targets, bed_queries}
use Rattle.bed.specs.Read.{bed_check}
use Rattle.bed.specs.Rules.{BedRules}
use Rattle.bed.specs.Tests.{bed_valid}
use Rattle.bed.proofs.AcceptLaws.{accepted_number}
use Rattle.bed.proofs.LineLaws.{line_of_lem}
use Rattle.bed.proofs.RowLaws.{vs, before, value_says, number_at_lem, name_at, some_words, accepted_end, accepted_rows}
use Rattle.bed_laws.proofs.RuleLaws.{rules_is}

module _ (s : List ℕ) (r : Bed) (ok : bed_check s ≡ Ok r) where
  -- THE RULES OF A RECORD, ONE BY ONE
  pub accepted_rules : BedRules r (bed_targets s r) (bed_queries s r) (bed_sizes s r)
  unfolding bed_columns
  accepted_rules =
      let w = accepted_rows s r ok in
      let line = line_of_lem s r ok in
      let n = r.blockCount in
      let some = some_words s r ok in
      let chrom = name_at s r ok column.chrom r.chrom (omega arith) refl line.chrom in
      let start : r.chromStart ≤ largest_position = rw line.chromStart (number_at_lem s r ok column.chrom_start Coordinate (omega arith) refl) in
      record {
        rows = record {
          some_block = w.some_block;
          few_blocks = w.few_blocks;
          target_rows = omega (arith, w.targets);
          query_rows = omega (arith, w.queries);
          size_rows = omega (arith, w.sizes);
          target_range = ranged_of 0 largest_position n (bed_targets s r) w.targets w.target_range;
          query_range = ranged_of 0 largest_position n (bed_queries s r) w.queries w.query_range;
          size_range = ranged_of 1 largest_position n (bed_sizes s r) w.sizes w.size_range;
        };
        number = rw line.words (accepted_number s r ok);
        chrom_some = chrom.0;
        chrom_short = chrom.1;
        name_some = λ h. (name_at s r ok column.name r.name h refl (line.name h)).0;
        name_short = λ h. (name_at s r ok column.name r.name h refl (line.name h)).1;
        start_range = start;
        end_range = accepted_end s r ok;
        score_range = λ h. rw (line.score h) (number_at_lem s r ok column.score BedScore h refl);
        thick_start_range = λ h. rw (line.thickStart h) (number_at_lem s r ok column.thick_start Coordinate h refl);
        thick_end_range = λ h. rw (line.thickEnd h) (number_at_lem s r ok column.thick_end Coordinate h refl);
        colour_range = λ h. rw (line.itemRgb h) (colour_spelt (before s r ok column.item_rgb) (bytes_of s (word_at s 0 column.item_rgb)) (get_or (vs s r ok) column.item_rgb 0) (value_says s r ok column.item_rgb h));
        no_name = λ h. ap (λ (p : Part). p.length) (line.no_name h);
        no_score = line.no_score;
        no_strand = line.no_strand;
        no_thick_start = line.no_thick_start;
        no_thick_end = line.no_thick_end;
        no_item_rgb = line.no_item_rgb;
        no_blocks = line.no_blocks;
        span = line.span;
        thick_low = line.thick_low;
        thick_order = line.thick_order;
        thick_high = line.thick_high;
        blocks = fills_of r.chromStart r.chromEnd n (bed_targets s r) (bed_sizes s r) w.targets w.sizes w.fill;
        sums = sums_of n (bed_queries s r) (bed_sizes s r) w.queries w.sizes w.sums;
      }

  pub accepted_valid : bed_valid r (bed_targets s r) (bed_queries s r) (bed_sizes s r) ≡ true
  accepted_valid = rules_is r (bed_targets s r) (bed_queries s r) (bed_sizes s r) accepted_rules
