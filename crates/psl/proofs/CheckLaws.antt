-- The record checker: what its tests show. Assumes nothing.
use mathlib.Core.Path.{◌≡◌, refl, sym, ◌∙◌}
use mathlib.Core.Bool.{Bool, true, false, not, ◌&&◌}
use mathlib.Core.List.{List}
use Prim.Native.Nat.{ℕ}
use lib.ListN.{take}
use lib.Dec.{leb}
use borrow.Author.Tests.{leb-true, not-true, not-false}
use Rattle.ledger.specs.Strands.{is_told}
use Rattle.ledger.specs.Limits.{largest_position}
use Rattle.ledger.specs.declared.Reason.TheVariants.{NumberOutOfRange}
use Rattle.ledger.specs.declared.Refusal.{Refusal}
use Rattle.ledger.specs.Refusals.{without_text}
use Rattle.text.proofs.TextLaws.{both}
use Rattle.blocks.specs.Blocks.{count_fits, rows_of, row_numbers_fit}
use Rattle.psl.specs.declared.Psl.{Psl}
use Rattle.psl.specs.Rows.{rows_fit, counts_fit}
use Rattle.psl.specs.Tests.{count_numbers_fit, fields_fit, spans_fit, psl_valid}
use Rattle.psl.specs.Write.{numbers_check}
use Rattle.psl.specs.Steps.{CountsRange, head_fits}
use Rattle.columns.specs.Names.{length_fits}
use Rattle.std.specs.Prelude.{Err}

-- counts in range
pub counts_range : (r : Psl) → fields_fit r ≡ true → CountsRange r.counts
unfolding fields_fit count_numbers_fit
counts_range r e =
    let a = (both (count_numbers_fit r.counts) _ e).0 in
    let m = both (leb r.counts.matches largest_position) _ a in
    let n = both (leb r.counts.misMatches largest_position) _ m.1 in
    let p = both (leb r.counts.repMatches largest_position) _ n.1 in
    let q = both (leb r.counts.nCount largest_position) _ p.1 in
    let u = both (leb r.counts.qNumInsert largest_position) _ q.1 in
    let v = both (leb r.counts.qBaseInsert largest_position) _ u.1 in
    let w = both (leb r.counts.tNumInsert largest_position) _ v.1 in
    record {
      matches = leb-true _ _ m.0;
      misMatches = leb-true _ _ n.0;
      repMatches = leb-true _ _ p.0;
      nCount = leb-true _ _ q.0;
      qBaseInsert = leb-true _ _ v.0;
      tBaseInsert = leb-true _ _ w.1;
    }

-- what is tested first, and the rest
head_rest : (a b c rest : Bool) → (a && (b && (c && rest))) ≡ ((a && (b && c)) && rest)
head_rest true true c rest = refl
head_rest true false c rest = refl
head_rest false b c rest = refl

module _ (r : Psl) (ts qs zs : List ℕ) (rows : ℕ) (er : rows ≡ rows_of ts qs zs) (h : Bool) (eh : h ≡ head_fits r rows) where
  abbrev names : Bool
  names = length_fits r.query.name.length && (length_fits r.target.name.length && is_told r.strand)

  abbrev count : Bool
  count = count_fits r.blockCount (rows_of ts qs zs)

  head_is : h ≡ (count && (names && fields_fit r))
  unfolding head_fits
  head_is = rw er at eh

  pub head_bad : not h ≡ true → false ≡ psl_valid r ts qs zs
  unfolding psl_valid
  head_bad q = rw (head_rest count names (fields_fit r), ← head_is, not-true h q)

  module _ (good : not h ≡ false) where
    head_good : (count && (names && fields_fit r)) ≡ true
    head_good = sym head_is ∙ not-false h good

    pub head_range : CountsRange r.counts
    head_range = counts_range r (both names (fields_fit r) (both count (names && fields_fit r) head_good).1).1

    pub record_is : (a b c d : Bool) → a ≡ row_numbers_fit (take r.blockCount ts) (take r.blockCount qs) (take r.blockCount zs) → b ≡ spans_fit r
        → c ≡ rows_fit r (take r.blockCount ts) (take r.blockCount qs) (take r.blockCount zs)
        → d ≡ counts_fit r.counts (take r.blockCount ts) (take r.blockCount qs) (take r.blockCount zs) → (a && (b && (c && d))) ≡ psl_valid r ts qs zs
    unfolding psl_valid
    record_is a b c d ea eb ec ed = rw (head_rest count names (fields_fit r), head_good, ea, eb, ec, ed)

-- the writer's checks from the numbers on
module _ (r : Psl) (f : Bool) (ef : f ≡ fields_fit r) where
  pub numbers_bad : (ts qs zs : List ℕ) (x : Refusal) → not f ≡ true → x ≡ without_text NumberOutOfRange → Err x ≡ numbers_check r ts qs zs
  numbers_bad ts qs zs x q e = rw (← ef, not-true f q, e)

  module _ (good : not f ≡ false) where
    pub fields_good : fields_fit r ≡ true
    fields_good = sym ef ∙ not-false f good

    pub numbers_range : CountsRange r.counts
    numbers_range = counts_range r fields_good
