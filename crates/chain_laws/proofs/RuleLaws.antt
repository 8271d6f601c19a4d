-- The test of a chain record with its rows and the rules stated one by one say the same; and the test sees only the rows in use. Assumes nothing.
use mathlib.Core.Path.{◌≡◌}
use mathlib.Core.Bool.{true}
use mathlib.Core.List.{List}
use Prim.Native.Nat.{ℕ, ◌≤◌, ◌<◌}
use native.Mathlib.Omega.{arith}
use lib.ListN.{length, take}
use lib.Seq.{length-take-le}
use lib.Dec.{leb, ltb}
use borrow.Author.Tests.{leb-true, ltb-true, le-leb, lt-ltb}
use Rattle.ledger.specs.Strands.{is_told}
use Rattle.ledger.proofs.Laws.{told_of, told_is}
use Rattle.ledger.specs.Limits.{name_limit, largest_position, chain_score_limit, chain_id_limit}
use Rattle.text.proofs.TextLaws.{both}
use Rattle.blocks.specs.Blocks.{blocks_fill, count_fits, rows_of, row_numbers_fit, span_fits}
use Rattle.blocks.proofs.RuleLaws.{fills_of, fills_is}
use Rattle.blocks.proofs.TakeLaws.{fills_take, fills_back}
use Rattle.blocks.proofs.UseLaws.{use_of, use_counts, use_numbers}
use Rattle.chain.specs.declared.Chain.{Chain}
use Rattle.chain.specs.Tests.{names_fit, size_fits, fields_fit, spans_fit, rows_fit, chain_valid}
use Rattle.chain.specs.Rules.{ChainRules}
use Rattle.columns.specs.Names.{length_fits}
use Rattle.columns.proofs.WordLaws.{and_i}

pub span_of : (a b c : ℕ) → span_fits a b c ≡ true → (a < b) × (b ≤ c)
span_of a b c e = let p = both (ltb a b) (leb b c) e in (ltb-true a b p.0, leb-true b c p.1)

pub span_is : (a b c : ℕ) → a < b → b ≤ c → span_fits a b c ≡ true
span_is a b c h k = and_i _ _ (lt-ltb a b h) (le-leb b c k)

-- WHAT PASSES THE TEST OBEYS THE RULES
pub rules_of : (r : Chain) (ts qs zs : List ℕ) → chain_valid r ts qs zs ≡ true → ChainRules r ts qs zs
unfolding chain_valid names_fit fields_fit spans_fit rows_fit
rules_of r ts qs zs e =
    let n = r.blockCount in
    let a = both (count_fits n (rows_of ts qs zs)) _ e in
    let b = both (names_fit r.tName.length r.qName.length) _ a.1 in
    let c = both (is_told r.qStrand) _ b.1 in
    let d = both (fields_fit r) _ c.1 in
    let f = both (row_numbers_fit (take n ts) (take n qs) (take n zs)) _ d.1 in
    let g = both (spans_fit r) (rows_fit r (take n ts) (take n qs) (take n zs)) f.1 in
    let used = use_of n ts qs zs a.0 f.0 in
    let names = both (length_fits r.tName.length) (length_fits r.qName.length) b.0 in
    let tName = both (leb 1 r.tName.length) (leb r.tName.length name_limit) names.0 in
    let qName = both (leb 1 r.qName.length) (leb r.qName.length name_limit) names.1 in
    let score = both (leb r.score chain_score_limit) _ d.0 in
    let tSize = both (size_fits r.tSize) _ score.1 in
    let tSizes = both (leb 1 r.tSize) (leb r.tSize largest_position) tSize.0 in
    let tStart = both (leb r.tStart largest_position) _ tSize.1 in
    let tEnd = both (leb r.tEnd largest_position) _ tStart.1 in
    let qSize = both (size_fits r.qSize) _ tEnd.1 in
    let qSizes = both (leb 1 r.qSize) (leb r.qSize largest_position) qSize.0 in
    let qStart = both (leb r.qStart largest_position) _ qSize.1 in
    let qEnd = both (leb r.qEnd largest_position) (leb r.id chain_id_limit) qStart.1 in
    let spans = both (span_fits r.tStart r.tEnd r.tSize) (span_fits r.qStart r.qEnd r.qSize) g.0 in
    let t_span = span_of r.tStart r.tEnd r.tSize spans.0 in
    let q_span = span_of r.qStart r.qEnd r.qSize spans.1 in
    let fill = both (blocks_fill r.tStart r.tEnd (take n ts) (take n zs)) (blocks_fill r.qStart r.qEnd (take n qs) (take n zs)) g.1 in
    record {
      rows = used;
      t_name_some = leb-true _ _ tName.0;
      t_name_short = leb-true _ _ tName.1;
      q_name_some = leb-true _ _ qName.0;
      q_name_short = leb-true _ _ qName.1;
      stranded = told_of r.qStrand c.0;
      score_range = leb-true _ _ score.0;
      t_size_some = leb-true _ _ tSizes.0;
      t_size_range = leb-true _ _ tSizes.1;
      t_start_range = leb-true _ _ tStart.0;
      t_end_range = leb-true _ _ tEnd.0;
      q_size_some = leb-true _ _ qSizes.0;
      q_size_range = leb-true _ _ qSizes.1;
      q_start_range = leb-true _ _ qStart.0;
      q_end_range = leb-true _ _ qEnd.0;
      id_range = leb-true _ _ qEnd.1;
      t_span = t_span.0;
      t_inside = t_span.1;
      q_span = q_span.0;
      q_inside = q_span.1;
      t_blocks = fills_back _ _ n ts zs (fills_of _ _ n (take n ts) (take n zs) (length-take-le n ts used.target_rows) (length-take-le n zs used.size_rows) fill.0);
      q_blocks = fills_back _ _ n qs zs (fills_of _ _ n (take n qs) (take n zs) (length-take-le n qs used.query_rows) (length-take-le n zs used.size_rows) fill.1);
    }

-- THE RULES PASS THE TEST
pub rules_is : (r : Chain) (ts qs zs : List ℕ) → ChainRules r ts qs zs → chain_valid r ts qs zs ≡ true
unfolding chain_valid names_fit fields_fit spans_fit rows_fit
rules_is r ts qs zs b =
    let n = r.blockCount in
    let lt = length-take-le n ts b.rows.target_rows in
    let lq = length-take-le n qs b.rows.query_rows in
    let lz = length-take-le n zs b.rows.size_rows in
    let tName : length_fits r.tName.length ≡ true = and_i _ _ (le-leb _ _ b.t_name_some) (le-leb _ _ b.t_name_short) in
    let qName : length_fits r.qName.length ≡ true = and_i _ _ (le-leb _ _ b.q_name_some) (le-leb _ _ b.q_name_short) in
    let tSize : size_fits r.tSize ≡ true = and_i _ _ (le-leb _ _ b.t_size_some) (le-leb _ _ b.t_size_range) in
    let qSize : size_fits r.qSize ≡ true = and_i _ _ (le-leb _ _ b.q_size_some) (le-leb _ _ b.q_size_range) in
    let ends = and_i _ _ (le-leb r.qStart largest_position b.q_start_range) (and_i _ _ (le-leb r.qEnd largest_position b.q_end_range) (le-leb r.id chain_id_limit b.id_range)) in
    let fields : fields_fit r ≡ true = and_i _ _ (le-leb _ _ b.score_range) (and_i _ _ tSize (and_i _ _ (le-leb _ _ b.t_start_range) (and_i _ _ (le-leb _ _ b.t_end_range) (and_i _ _ qSize ends)))) in
    let spans : spans_fit r ≡ true = and_i _ _ (span_is r.tStart r.tEnd r.tSize b.t_span b.t_inside) (span_is r.qStart r.qEnd r.qSize b.q_span b.q_inside) in
    let t_blocks = fills_is _ _ n (take n ts) (take n zs) lt lz (fills_take _ _ n ts zs b.t_blocks) in
    let q_blocks = fills_is _ _ n (take n qs) (take n zs) lq lz (fills_take _ _ n qs zs b.q_blocks) in
    let rows : rows_fit r (take n ts) (take n qs) (take n zs) ≡ true = and_i _ _ t_blocks q_blocks in
    and_i _ _ (use_counts n ts qs zs b.rows) (and_i _ _ (and_i _ _ tName qName) (and_i _ _ (told_is r.qStrand b.stranded) (and_i _ _ fields (and_i _ _ (use_numbers n ts qs zs b.rows) (and_i _ _ spans rows)))))

-- THE TEST SEES ONLY THE ROWS IN USE
module _ (r : Chain) (ts ts' qs qs' zs zs' : List ℕ) where
  pub valid_used : r.blockCount ≤ length ts → r.blockCount ≤ length ts' → r.blockCount ≤ length qs → r.blockCount ≤ length qs' → r.blockCount ≤ length zs → r.blockCount ≤ length zs'
      → take r.blockCount ts ≡ take r.blockCount ts' → take r.blockCount qs ≡ take r.blockCount qs' → take r.blockCount zs ≡ take r.blockCount zs'
      → chain_valid r ts qs zs ≡ chain_valid r ts' qs' zs'
  unfolding chain_valid
  valid_used lt lt' lq lq' lz lz' et eq ez =
      let h : r.blockCount ≤ rows_of ts qs zs = omega arith in
      let h' : r.blockCount ≤ rows_of ts' qs' zs' = omega arith in
      rw (le-leb r.blockCount (rows_of ts qs zs) h, le-leb r.blockCount (rows_of ts' qs' zs') h', et, eq, ez)
