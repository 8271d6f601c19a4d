-- Lifts and tallies over a table of rows: the staged rows give the same answers as the table. Assumes nothing.
use mathlib.Core.Path.{◌≡◌, refl, ap, ◌∙◌}
use mathlib.Core.Bool.{Bool}
use mathlib.Core.List.{List}
use Prim.Native.Nat.{ℕ, ◌+◌, ◌-◌, min}
use lib.ListN.{length, take}
use lib.Dec.{leb, ltb}
use Rattle.ledger.specs.Refusals.{require}
use Rattle.ledger.specs.Limits.{block_limit, tally_limit}
use Rattle.ledger.specs.declared.Row.{Row}
use Rattle.ledger.specs.declared.Reason.TheVariants.{NumberOutOfRange, BlockRules, CountsDisagree, OutsideTarget}
use Rattle.blocks.specs.Rows.{table_of}
use Rattle.rows.specs.Staging.{staged_rows, all_reach, Loaded, Columns}
use Rattle.rows.proofs.StagingLaws.{cut_rows, staged_parts, staged_loaded}
use Rattle.chain.specs.declared.Chain.{Chain}
use Rattle.lift.specs.Pairs.{Pair, forward, pairs_of, pairs, partner_of}
use Rattle.lift.proofs.CutLaws.{seen_cut}
use Rattle.lift.specs.Positions.{not_lifted, at_partner, lift_position}
use Rattle.region.specs.declared.Tally.{Tally}
use Rattle.region.specs.declared.Tallied.{Tallied}
use Rattle.region.specs.Regions.{kept, dropped, not_lifted as notRegion, inside, carried, lift_region}
use Rattle.region.specs.Tallies.{good_tally, grown, not_tallied, tally_step}
use Rattle.region.specs.declared.Batched.{Batched}
use Rattle.region.specs.Batches.{BatchDone}
use Rattle.region.proofs.BatchLaws.{done_same}
use Rattle.table_lift.specs.Lifts.{RegionTallied, BatchLifted}
use Rattle.std.specs.Prelude.{Result, ℤ}
use Rattle.ledger.specs.declared.Refusal.{Refusal}
use Rattle.region.specs.declared.Region.{Region}

-- on the rows that are staged, each is what it is on the table
position_cut : (c : Chain) (rows : List Row) (p : ℕ) → lift_position c (cut_rows rows) p ≡ lift_position c rows p
unfolding lift_position pairs
position_cut c rows p =
    seen_cut (λ (t : Bool) (bs : List Row). require t (not_lifted BlockRules) (require (ltb p c.tSize) (not_lifted OutsideTarget) (at_partner p (partner_of p (pairs_of (forward c) bs))))) (λ a b. refl) c rows

region_cut : (c : Chain) (rows : List Row) (a e : ℕ) → lift_region c (cut_rows rows) a e ≡ lift_region c rows a e
unfolding lift_region pairs
region_cut c rows a e =
    seen_cut (λ (t : Bool) (bs : List Row). require t (notRegion BlockRules) (require (inside c a e) (notRegion OutsideTarget) (carried c.qSize (pairs_of (forward c) bs) a e))) (λ x y. refl) c rows

-- a tally's step, as it looks at whether the chain is accepted and at its pairs
abbrev step_seen : Tally → Chain → ℕ → ℕ → Bool → List Pair → Tallied
step_seen t c a e ok ps =
    require ok (not_tallied t BlockRules)
    (require (inside c a e) (not_tallied t OutsideTarget)
    (require (good_tally t) (not_tallied t CountsDisagree)
    (require (leb (t.asked + (e - a)) tally_limit) (not_tallied t NumberOutOfRange)
    (record { tally = grown t (e - a) (kept ps a e) (dropped ps a e); answer = carried c.qSize ps a e }))))

step_cut : (t : Tally) (c : Chain) (rows : List Row) (a e : ℕ) → tally_step t c (cut_rows rows) a e ≡ tally_step t c rows a e
unfolding tally_step pairs
step_cut t c rows a e = seen_cut (λ (ok : Bool) (bs : List Row). step_seen t c a e ok (pairs_of (forward c) bs)) (λ x y. refl) c rows

-- the part of the columns that the table fills
module _ (c : Chain) (rows n : ℕ) (ts qs zs : List ℕ) (h : n ≡ min rows block_limit) where
  pub position_staged : (p : ℕ) (x : Result (ℕ × ℤ) Refusal) → x ≡ lift_position c (table_of (take n ts) (take n qs) (take n zs)) p → x ≡ lift_position c (staged_rows rows ts qs zs) p
  position_staged p x k = k ∙ ap (λ (l : List Row). lift_position c l p) (staged_parts rows n ts qs zs h)

  pub region_staged : (a e : ℕ) (x : Result Region Refusal) → x ≡ lift_region c (table_of (take n ts) (take n qs) (take n zs)) a e → x ≡ lift_region c (staged_rows rows ts qs zs) a e
  region_staged a e x k = k ∙ ap (λ (l : List Row). lift_region c l a e) (staged_parts rows n ts qs zs h)

  pub step_staged : (t : Tally) (a e : ℕ) (x : Tallied) → x ≡ tally_step t c (table_of (take n ts) (take n qs) (take n zs)) a e → x ≡ tally_step t c (staged_rows rows ts qs zs) a e
  step_staged t a e x k = k ∙ ap (λ (l : List Row). tally_step t c l a e) (staged_parts rows n ts qs zs h)

  pub batch_staged : (t : Tally) (regions before after : List (List ℕ)) (x : Batched) → BatchDone t c (table_of (take n ts) (take n qs) (take n zs)) regions before after x
      → BatchDone t c (staged_rows rows ts qs zs) regions before after x
  batch_staged t regions before after x d = rw (← staged_parts rows n ts qs zs h) d

-- the columns that the table was loaded into
module _ (rows : List Row) (ts ts' qs qs' zs zs' : List ℕ) (room : Columns ts qs zs) (h : Loaded (all_reach (length rows) ts qs zs) rows ts ts' qs qs' zs zs') where
  abbrev bs : List Row
  bs = staged_rows (length rows) ts' qs' zs'

  here : bs ≡ cut_rows rows
  here = staged_loaded rows ts ts' qs qs' zs zs' room h

  pub position_lifted_lem : (c : Chain) (p : ℕ) (x : Result (ℕ × ℤ) Refusal) → x ≡ lift_position c bs p → x ≡ lift_position c rows p
  position_lifted_lem c p x k = k ∙ ap (λ (l : List Row). lift_position c l p) here ∙ position_cut c rows p

  pub region_lifted_lem : (c : Chain) (a e : ℕ) (x : Result Region Refusal) → x ≡ lift_region c bs a e → x ≡ lift_region c rows a e
  region_lifted_lem c a e x k = k ∙ ap (λ (l : List Row). lift_region c l a e) here ∙ region_cut c rows a e

  pub region_tallied : (t : Tally) (c : Chain) (a e : ℕ) (x : Tallied) → x ≡ tally_step t c bs a e → RegionTallied t c rows a e x.tally x.answer
  region_tallied t c a e x k =
      let s : x ≡ tally_step t c rows a e = k ∙ ap (λ (l : List Row). tally_step t c l a e) here ∙ step_cut t c rows a e in
      record { is = ap (λ (y : Tallied). y.answer) s; tally = ap (λ (y : Tallied). y.tally) s }

  pub batch_lifted_lem : (t : Tally) (c : Chain) (regions before after : List (List ℕ)) (x : Batched) → BatchDone t c bs regions before after x
      → BatchLifted t c rows regions before x.tally after x.check
  batch_lifted_lem t c regions before after x d =
      done_same c bs rows (λ u a e. ap (λ (l : List Row). tally_step u c l a e) here ∙ step_cut u c rows a e) t regions before after x d
