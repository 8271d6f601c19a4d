-- The test of a BED record with its rows and the rules stated one by one say the same; and the test sees only the rows in use. Assumes nothing.
use mathlib.Core.Path.{◌≡◌, refl}
use mathlib.Core.Bool.{Bool, true, false}
use mathlib.Core.List.{List}
use Prim.Native.Nat.{ℕ, suc, ◌*◌, ◌≤◌, ◌<◌}
use native.Mathlib.Omega.{arith}
use lib.ListN.{take}
use lib.Seq.{length-take-le}
use lib.Dec.{leb, ltb, eqb}
use borrow.Author.Tests.{leb-true, ltb-true, ltb-false, eqb-true, le-leb, lt-ltb, le-ltb, eq-eqb}
use Rattle.ledger.specs.declared.Strand.{Strand}
use Rattle.ledger.specs.declared.Strand.TheVariants.{Plus, Minus, Dot}
use Rattle.ledger.specs.Limits.{name_limit, largest_position, bed_score_limit, colour_limit}
use Rattle.text.proofs.TextLaws.{both}
use Rattle.columns.specs.Names.{length_fits}
use Rattle.columns.proofs.WordLaws.{and_i}
use Rattle.blocks.proofs.RuleLaws.{fills_of, fills_is, sums_of, sums_is}
use Rattle.blocks.proofs.TakeLaws.{fills_take, fills_back, sums_take, sums_back}
use Rattle.blocks.proofs.UseLaws.{use_of, use_counts, use_numbers}
use Rattle.bed.specs.declared.Bed.{Bed}
use Rattle.bed.specs.Columns as column
use Rattle.bed.specs.Tests.{if_there, names_fit, is_dot, strand_fits, fields_fit, spans_fit, rows_fit, bed_valid}
use Rattle.bed.specs.Rules.{BedRules}
use Rattle.bed.proofs.ColumnLaws.{number_of_lem, number_is}

-- a column that is there, and one left out
module _ (n k : ℕ) (a b : Bool) where
  there : if_there n k a b ≡ true → k < n → a ≡ true
  there e h = rw (lt-ltb k n h) at e

  left : if_there n k a b ≡ true → n ≤ k → b ≡ true
  left e h = rw (le-ltb k n h) at e

  there_or_left : (k < n → a ≡ true) → (n ≤ k → b ≡ true) → if_there n k a b ≡ true
  there_or_left f g = go (ltb k n) refl
    where
      go : (t : Bool) → ltb k n ≡ t → if_there n k a b ≡ true
      go true e = rw e (f (ltb-true k n e))
      go false e = rw e (g (ltb-false k n e))

-- the strand of none
not_true : false ≡ true → ⊥
not_true e = let z : ◌≡◌ {A = ℕ} 0 1 = cc in omega arith

dot_of : (s : Strand) → is_dot s ≡ true → s ≡ Dot
dot_of Plus e = absurd (not_true e)
dot_of Minus e = absurd (not_true e)
dot_of Dot e = refl

dot_is : (s : Strand) → s ≡ Dot → is_dot s ≡ true
dot_is s e = rw e

-- THE TEST SAYS THE RULES
pub rules_of : (r : Bed) (ts qs zs : List ℕ) → bed_valid r ts qs zs ≡ true → BedRules r ts qs zs
unfolding bed_valid names_fit strand_fits fields_fit spans_fit rows_fit
rules_of r ts qs zs e =
    let n = r.blockCount in
    let w = r.words in
    let count = both _ _ e in
    let names = both _ _ count.1 in
    let chrom = both _ _ names.0 in
    let chromLength = both _ _ chrom.0 in
    let strand = both _ _ names.1 in
    let fields = both _ _ strand.1 in
    let number = both _ _ fields.0 in
    let start = both _ _ number.1 in
    let end = both _ _ start.1 in
    let score = both _ _ end.1 in
    let thickStart = both _ _ score.1 in
    let thickEnd = both _ _ thickStart.1 in
    let numbers = both _ _ fields.1 in
    let used = use_of n ts qs zs count.0 numbers.0 in
    let lt = length-take-le n ts used.target_rows in
    let lq = length-take-le n qs used.query_rows in
    let lz = length-take-le n zs used.size_rows in
    let spans = both _ _ numbers.1 in
    let span = both _ _ spans.0 in
    let thick = both _ _ span.1 in
    let thick_order = both _ _ thick.1 in
    let rows = both _ _ spans.1 in
    let blocks = both _ _ rows.1 in
    record {
      rows = used;
      number = number_of_lem w number.0;
      chrom_some = leb-true _ _ chromLength.0;
      chrom_short = leb-true _ _ chromLength.1;
      name_some = λ h. leb-true _ _ (both (leb 1 r.name.length) (leb r.name.length name_limit) (there w column.name (length_fits r.name.length) (eqb r.name.length 0) chrom.1 h)).0;
      name_short = λ h. leb-true _ _ (both (leb 1 r.name.length) (leb r.name.length name_limit) (there w column.name (length_fits r.name.length) (eqb r.name.length 0) chrom.1 h)).1;
      start_range = leb-true _ _ start.0;
      end_range = leb-true _ _ end.0;
      score_range = λ h. leb-true _ _ (there w column.score (leb r.score bed_score_limit) (eqb r.score 0) score.0 h);
      thick_start_range = λ h. leb-true _ _ (there w column.thick_start (leb r.thickStart largest_position) (eqb r.thickStart r.chromStart) thickStart.0 h);
      thick_end_range = λ h. leb-true _ _ (there w column.thick_end (leb r.thickEnd largest_position) (eqb r.thickEnd r.chromEnd) thickEnd.0 h);
      colour_range = λ h. ltb-true _ _ (there w column.item_rgb (ltb r.itemRgb (suc colour_limit * suc colour_limit * suc colour_limit)) (eqb r.itemRgb 0) thickEnd.1 h);
      no_name = λ h. eqb-true _ _ (left w column.name (length_fits r.name.length) (eqb r.name.length 0) chrom.1 h);
      no_score = λ h. eqb-true _ _ (left w column.score (leb r.score bed_score_limit) (eqb r.score 0) score.0 h);
      no_strand = λ h. dot_of r.strand (left w column.strand true (is_dot r.strand) strand.0 h);
      no_thick_start = λ h. eqb-true _ _ (left w column.thick_start (leb r.thickStart largest_position) (eqb r.thickStart r.chromStart) thickStart.0 h);
      no_thick_end = λ h. eqb-true _ _ (left w column.thick_end (leb r.thickEnd largest_position) (eqb r.thickEnd r.chromEnd) thickEnd.0 h);
      no_item_rgb = λ h. eqb-true _ _ (left w column.item_rgb (ltb r.itemRgb (suc colour_limit * suc colour_limit * suc colour_limit)) (eqb r.itemRgb 0) thickEnd.1 h);
      no_blocks = λ h. eqb-true _ _ (left w column.block_count true (eqb n 1) rows.0 h);
      span = ltb-true _ _ span.0;
      thick_low = leb-true _ _ thick.0;
      thick_order = leb-true _ _ thick_order.0;
      thick_high = leb-true _ _ thick_order.1;
      blocks = fills_back _ _ n ts zs (fills_of _ _ n (take n ts) (take n zs) lt lz blocks.0);
      sums = sums_back n qs zs (sums_of n (take n qs) (take n zs) lq lz blocks.1);
    }

-- THE RULES PASS THE TEST
pub rules_is : (r : Bed) (ts qs zs : List ℕ) → BedRules r ts qs zs → bed_valid r ts qs zs ≡ true
unfolding bed_valid names_fit strand_fits fields_fit spans_fit rows_fit
rules_is r ts qs zs b =
    let n = r.blockCount in
    let w = r.words in
    let u = b.rows in
    let lt = length-take-le n ts u.target_rows in
    let lq = length-take-le n qs u.query_rows in
    let lz = length-take-le n zs u.size_rows in
    let chrom : length_fits r.chrom.length ≡ true = and_i _ _ (le-leb _ _ b.chrom_some) (le-leb _ _ b.chrom_short) in
    let name = there_or_left w column.name (length_fits r.name.length) (eqb r.name.length 0) (λ h. and_i _ _ (le-leb _ _ (b.name_some h)) (le-leb _ _ (b.name_short h))) (λ h. eq-eqb _ _ (b.no_name h)) in
    let strand : strand_fits r ≡ true = there_or_left w column.strand true (is_dot r.strand) (λ h. refl) (λ h. dot_is r.strand (b.no_strand h)) in
    let score = there_or_left w column.score (leb r.score bed_score_limit) (eqb r.score 0) (λ h. le-leb _ _ (b.score_range h)) (λ h. eq-eqb _ _ (b.no_score h)) in
    let thickStart = there_or_left w column.thick_start (leb r.thickStart largest_position) (eqb r.thickStart r.chromStart) (λ h. le-leb _ _ (b.thick_start_range h)) (λ h. eq-eqb _ _ (b.no_thick_start h)) in
    let thickEnd = there_or_left w column.thick_end (leb r.thickEnd largest_position) (eqb r.thickEnd r.chromEnd) (λ h. le-leb _ _ (b.thick_end_range h)) (λ h. eq-eqb _ _ (b.no_thick_end h)) in
    let colour = there_or_left w column.item_rgb (ltb r.itemRgb (suc colour_limit * suc colour_limit * suc colour_limit)) (eqb r.itemRgb 0) (λ h. lt-ltb _ _ (b.colour_range h)) (λ h. eq-eqb _ _ (b.no_item_rgb h)) in
    let places = and_i _ _ thickStart (and_i _ _ thickEnd colour) in
    let fields : fields_fit r ≡ true = and_i _ _ (number_is b.number) (and_i _ _ (le-leb _ _ b.start_range) (and_i _ _ (le-leb _ _ b.end_range) (and_i _ _ score places))) in
    let spans : spans_fit r ≡ true = and_i _ _ (lt-ltb _ _ b.span) (and_i _ _ (le-leb _ _ b.thick_low) (and_i _ _ (le-leb _ _ b.thick_order) (le-leb _ _ b.thick_high))) in
    let one = there_or_left w column.block_count true (eqb n 1) (λ h. refl) (λ h. eq-eqb _ _ (b.no_blocks h)) in
    let blocks = fills_is _ _ n (take n ts) (take n zs) lt lz (fills_take _ _ n ts zs b.blocks) in
    let sums = sums_is n (take n qs) (take n zs) lq lz (sums_take n qs zs b.sums) in
    let rows : rows_fit r (take n ts) (take n qs) (take n zs) ≡ true = and_i _ _ one (and_i _ _ blocks sums) in
    and_i _ _ (use_counts n ts qs zs u) (and_i _ _ (and_i _ _ chrom name) (and_i _ _ strand (and_i _ _ fields (and_i _ _ (use_numbers n ts qs zs u) (and_i _ _ spans rows)))))
