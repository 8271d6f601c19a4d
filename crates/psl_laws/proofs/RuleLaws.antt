-- The test of a PSL record with its rows and the rules stated one by one say the same. Assumes nothing.
use mathlib.Core.Path.{◌≡◌}
use mathlib.Core.Bool.{true, ◌&&◌}
use mathlib.Core.List.{List}
use Prim.Native.Nat.{ℕ}
use lib.ListN.{take}
use lib.Seq.{length-take-le}
use lib.Dec.{leb, ltb}
use borrow.Author.Tests.{leb-true, ltb-true, eqb-true, le-leb, lt-ltb, eq-eqb}
use Rattle.ledger.specs.Strands.{is_told}
use Rattle.ledger.proofs.Laws.{told_of, told_is}
use Rattle.ledger.specs.Limits.{name_limit, largest_position}
use Rattle.text.proofs.TextLaws.{both}
use Rattle.blocks.specs.Blocks.{count_fits, rows_of, row_numbers_fit, span_fits}
use Rattle.blocks.proofs.RuleLaws.{fills_of, fills_is}
use Rattle.blocks.proofs.TakeLaws.{fills_take, fills_back}
use Rattle.blocks.proofs.UseLaws.{use_of, use_counts, use_numbers}
use Rattle.psl.specs.declared.Counts.{Counts}
use Rattle.psl.specs.declared.Side.{Side}
use Rattle.psl.specs.declared.Psl.{Psl}
use Rattle.psl.specs.Rows.{rows_fit, counts_fit}
use Rattle.psl.specs.Tests.{side_fits, count_numbers_fit, fields_fit, spans_fit, psl_valid}
use Rattle.psl.specs.Rules.{SpanIn, CountRules, SideRange, PslRules}
use Rattle.columns.specs.Names.{length_fits}
use Rattle.columns.proofs.WordLaws.{and_i}

-- a span
pub span_of : (x : Side) → span_fits x.start x.end x.size ≡ true → SpanIn x
span_of x e =
    let b = both (ltb x.start x.end) (leb x.end x.size) e in
    record { some = ltb-true _ _ b.0; within = leb-true _ _ b.1 }

pub span_is : (x : Side) → SpanIn x → span_fits x.start x.end x.size ≡ true
span_is x h = and_i _ _ (lt-ltb x.start x.end h.some) (le-leb x.end x.size h.within)

-- the numbers of a side, and its name's length
pub side_of_lem : (x : Side) → length_fits x.name.length ≡ true → side_fits x ≡ true → SideRange x
side_of_lem x n e =
    let name = both (leb 1 x.name.length) (leb x.name.length name_limit) n in
    let numbers = both (leb 1 x.size && leb x.size largest_position) (leb x.start largest_position && leb x.end largest_position) e in
    let size = both (leb 1 x.size) (leb x.size largest_position) numbers.0 in
    let span = both (leb x.start largest_position) (leb x.end largest_position) numbers.1 in
    record {
      name_some = leb-true _ _ name.0;
      name_short = leb-true _ _ name.1;
      size_some = leb-true _ _ size.0;
      size_range = leb-true _ _ size.1;
      start_range = leb-true _ _ span.0;
      end_range = leb-true _ _ span.1;
    }

name_is : (x : Side) → SideRange x → length_fits x.name.length ≡ true
name_is x h = and_i _ _ (le-leb 1 x.name.length h.name_some) (le-leb x.name.length name_limit h.name_short)

side_is : (x : Side) → SideRange x → side_fits x ≡ true
side_is x h =
    and_i _ _ (and_i _ _ (le-leb 1 x.size h.size_some) (le-leb x.size largest_position h.size_range))
    (and_i _ _ (le-leb x.start largest_position h.start_range) (le-leb x.end largest_position h.end_range))

-- the house counts
module _ (c : Counts) (ts qs zs : List ℕ) where
  pub counts_of_lem : counts_fit c ts qs zs ≡ true → CountRules c ts qs zs
  unfolding counts_fit
  counts_of_lem e =
      let bases = both _ _ e in
      let query_gaps = both _ _ bases.1 in
      let query_bases = both _ _ query_gaps.1 in
      let targets = both _ _ query_bases.1 in
      record {
        bases = eqb-true _ _ bases.0;
        query_gaps = eqb-true _ _ query_gaps.0;
        query_bases = eqb-true _ _ query_bases.0;
        target_gaps = eqb-true _ _ targets.0;
        target_bases = eqb-true _ _ targets.1;
      }

  pub counts_is : CountRules c ts qs zs → counts_fit c ts qs zs ≡ true
  unfolding counts_fit
  counts_is h = and_i _ _ (eq-eqb _ _ h.bases) (and_i _ _ (eq-eqb _ _ h.query_gaps) (and_i _ _ (eq-eqb _ _ h.query_bases) (and_i _ _ (eq-eqb _ _ h.target_gaps) (eq-eqb _ _ h.target_bases))))

-- THE TEST SAYS THE RULES
pub rules_of : (r : Psl) (ts qs zs : List ℕ) → psl_valid r ts qs zs ≡ true → PslRules r ts qs zs
unfolding psl_valid count_numbers_fit fields_fit spans_fit rows_fit
rules_of r ts qs zs e =
    let n = r.blockCount in
    let count = both (count_fits n (rows_of ts qs zs)) _ e in
    let names = both _ _ count.1 in
    let query = both (length_fits r.query.name.length) _ names.0 in
    let target = both (length_fits r.target.name.length) (is_told r.strand) query.1 in
    let fields = both _ _ names.1 in
    let counts = both _ _ fields.0 in
    let sides = both (side_fits r.query) (side_fits r.target) counts.1 in
    let matches = both _ _ counts.0 in
    let misMatches = both _ _ matches.1 in
    let repMatches = both _ _ misMatches.1 in
    let nCount = both _ _ repMatches.1 in
    let qNumInsert = both _ _ nCount.1 in
    let qBaseInsert = both _ _ qNumInsert.1 in
    let tInsert = both _ _ qBaseInsert.1 in
    let numbers = both (row_numbers_fit (take n ts) (take n qs) (take n zs)) _ fields.1 in
    let used = use_of n ts qs zs count.0 numbers.0 in
    let spans = both _ _ numbers.1 in
    let span = both (span_fits r.query.start r.query.end r.query.size) (span_fits r.target.start r.target.end r.target.size) spans.0 in
    let rows = both _ _ spans.1 in
    let blocks = both _ _ rows.0 in
    let lt = length-take-le n ts used.target_rows in
    let lq = length-take-le n qs used.query_rows in
    let lz = length-take-le n zs used.size_rows in
    record {
      rows = used;
      strand = told_of r.strand target.1;
      query_range = side_of_lem r.query query.0 sides.0;
      target_range = side_of_lem r.target target.0 sides.1;
      matches_range = leb-true _ _ matches.0;
      mis_matches_range = leb-true _ _ misMatches.0;
      rep_matches_range = leb-true _ _ repMatches.0;
      n_count_range = leb-true _ _ nCount.0;
      q_num_insert_range = leb-true _ _ qNumInsert.0;
      q_base_insert_range = leb-true _ _ qBaseInsert.0;
      t_num_insert_range = leb-true _ _ tInsert.0;
      t_base_insert_range = leb-true _ _ tInsert.1;
      query_span = span_of r.query span.0;
      target_span = span_of r.target span.1;
      target_blocks = fills_back _ _ n ts zs (fills_of _ _ n (take n ts) (take n zs) lt lz blocks.0);
      query_blocks = fills_back _ _ n qs zs (fills_of _ _ n (take n qs) (take n zs) lq lz blocks.1);
      counts = counts_of_lem r.counts (take n ts) (take n qs) (take n zs) rows.1;
    }

-- THE RULES PASS THE TEST
pub rules_is : (r : Psl) (ts qs zs : List ℕ) → PslRules r ts qs zs → psl_valid r ts qs zs ≡ true
unfolding psl_valid count_numbers_fit fields_fit spans_fit rows_fit
rules_is r ts qs zs b =
    let n = r.blockCount in
    let lt = length-take-le n ts b.rows.target_rows in
    let lq = length-take-le n qs b.rows.query_rows in
    let lz = length-take-le n zs b.rows.size_rows in
    let names = and_i _ _ (name_is r.query b.query_range) (and_i _ _ (name_is r.target b.target_range) (told_is r.strand b.strand)) in
    let inserts = and_i _ _ (le-leb _ _ b.q_num_insert_range) (and_i _ _ (le-leb _ _ b.q_base_insert_range) (and_i _ _ (le-leb _ _ b.t_num_insert_range) (le-leb _ _ b.t_base_insert_range))) in
    let numbers : count_numbers_fit r.counts ≡ true = and_i _ _ (le-leb _ _ b.matches_range) (and_i _ _ (le-leb _ _ b.mis_matches_range) (and_i _ _ (le-leb _ _ b.rep_matches_range) (and_i _ _ (le-leb _ _ b.n_count_range) inserts))) in
    let fields : fields_fit r ≡ true = and_i _ _ numbers (and_i _ _ (side_is r.query b.query_range) (side_is r.target b.target_range)) in
    let spans : spans_fit r ≡ true = and_i _ _ (span_is r.query b.query_span) (span_is r.target b.target_span) in
    let target_blocks = fills_is _ _ n (take n ts) (take n zs) lt lz (fills_take _ _ n ts zs b.target_blocks) in
    let query_blocks = fills_is _ _ n (take n qs) (take n zs) lq lz (fills_take _ _ n qs zs b.query_blocks) in
    let rows : rows_fit r (take n ts) (take n qs) (take n zs) ≡ true = and_i _ _ target_blocks query_blocks in
    let counts = counts_is r.counts (take n ts) (take n qs) (take n zs) b.counts in
    and_i _ _ (use_counts n ts qs zs b.rows) (and_i _ _ names (and_i _ _ fields (and_i _ _ (use_numbers n ts qs zs b.rows) (and_i _ _ spans (and_i _ _ rows counts)))))
