-- Demand 3 on the tally: after every list of regions its fields are the sums; and what a step does to any tally. Assumes nothing.
use mathlib.Core.Path.{◌≡◌, refl, sym, ap, ◌∙◌}
use mathlib.Core.Bool.{Bool, true, false, not, ◌&&◌}
use mathlib.Core.List.{List, [], ◌∷◌, ◌++◌}
use Prim.Native.Nat.{ℕ, ◌+◌, ◌-◌, ◌≤◌, ◌<◌}
use native.Mathlib.Omega.{arith}
use lib.Dec.{leb, ltb, eqb}
use borrow.Author.Tests.{lt-leb, le-leb, eq-eqb, leb-true, leb-false, ltb-true, eqb-true, not-true, not-false}
use Rattle.ledger.specs.Refusals.{require}
use Rattle.ledger.specs.declared.Row.{Row}
use Rattle.ledger.specs.declared.Reason.{Reason}
use Rattle.ledger.specs.declared.Reason.TheVariants.{NumberOutOfRange, BlockRules, CountsDisagree, NoPair, OutsideTarget}
use Rattle.ledger.specs.declared.Refusal.{Refusal}
use Rattle.ledger.specs.Limits.{tally_limit}
use Rattle.ledger.specs.Reasons.{reason_number}
use Rattle.blocks.specs.Rows.{table_of}
use Rattle.blocks.proofs.RuleLaws.{both}
use Rattle.chain.specs.declared.Chain.{Chain}
use Rattle.lift.specs.Accepted.{accepted}
use Rattle.lift.specs.Pairs.{Pair, pairs}
use Rattle.lift.proofs.RunLaws.{and_i}
use Rattle.region.specs.declared.Reach.{Reach}
use Rattle.region.specs.declared.Tally.{Tally}
use Rattle.region.specs.declared.Tallied.{Tallied}
use Rattle.region.specs.Regions.{kept, dropped, not_lifted, inside, carried, lift_region}
use Rattle.region.specs.Reaches.{Reached, Found, answer_of}
use Rattle.region.specs.Tallies.{good_tally, grown, not_tallied, tally_step, Sent, length_of, kept_of, dropped_of, counts, add_if, counted, total, sums, zero_tally, sent_through}
use Rattle.region.specs.Steps.{if_admitted, admission, Growable, grown_by, of_admission, step_ready}
use Rattle.region.proofs.CountLaws.{kept_dropped}
use Rattle.region.proofs.RegionLaws.{region_of}
use Rattle.std.specs.Prelude.{Ok, Err, Result, ⊤}
use Rattle.region.specs.declared.Region.{Region}

-- a good tally, as facts
pub record Good (t : Tally) : Type 0 where
  pub asked_most : t.asked ≤ tally_limit
  pub kept_most : t.kept ≤ tally_limit
  pub dropped_most : t.dropped ≤ tally_limit
  pub even : t.kept + t.dropped ≡ t.asked

pub good_of : (t : Tally) → good_tally t ≡ true → Good t
unfolding good_tally
good_of t e =
    let p = both (leb t.kept tally_limit) _ e in
    let q = both (leb t.dropped tally_limit) _ p.1 in
    let r = both (leb t.asked tally_limit) _ q.1 in
    record { asked_most = leb-true _ _ r.0; kept_most = leb-true _ _ p.0; dropped_most = leb-true _ _ q.0; even = eqb-true _ _ r.1 }

pub good_is : (t : Tally) → Good t → good_tally t ≡ true
unfolding good_tally
good_is t g = and_i (le-leb _ _ g.kept_most) (and_i (le-leb _ _ g.dropped_most) (and_i (le-leb _ _ g.asked_most) (eq-eqb _ _ g.even)))

zero_good : Good zero_tally
zero_good = record { asked_most = omega arith; kept_most = omega arith; dropped_most = omega arith; even = refl }

-- ---- one step from a good tally
abbrev if_counts : Bool → Tally → Sent → Tally
if_counts true t r = grown t (length_of r) (kept_of r) (dropped_of r)
if_counts false t r = t

step_is : (t : Tally) (r : Sent) → Good t → (tally_step t r.chain r.rows r.start r.end).tally ≡ if_counts (counts t.asked r) t r
unfolding tally_step counts
step_is t r g = go (accepted r.chain r.rows) (inside r.chain r.start r.end) (leb (t.asked + length_of r) tally_limit) refl refl refl
  where
    go : (x y z : Bool) → accepted r.chain r.rows ≡ x → inside r.chain r.start r.end ≡ y → leb (t.asked + length_of r) tally_limit ≡ z
        → (tally_step t r.chain r.rows r.start r.end).tally ≡ if_counts (x && y && z) t r
    go true true true p q k = rw (p, q, good_is t g, k)
    go true true false p q k = rw (p, q, good_is t g, k)
    go true false z p q k = rw (p, q)
    go false y z p q k = rw p

counts_good : (t : Tally) (r : Sent) (b : Bool) → counts t.asked r ≡ b → Good t → Good (if_counts b t r)
unfolding counts
counts_good t r true e g =
    let k : leb (t.asked + length_of r) tally_limit ≡ true = (both (accepted r.chain r.rows && inside r.chain r.start r.end) (leb (t.asked + length_of r) tally_limit) e).1 in
    let l : t.asked + length_of r ≤ tally_limit = leb-true _ _ k in
    let d = kept_dropped (pairs r.chain r.rows) r.start r.end in
    let s = g.even in
    record { asked_most = l; kept_most = omega arith; dropped_most = omega arith; even = omega arith }
counts_good t r false e g = g

-- a step leaves a good tally good: each field within its limit, and kept and dropped make up asked
pub step_good : (t : Tally) (c : Chain) (rows : List Row) (a e : ℕ) → Good t → Good (tally_step t c rows a e).tally
step_good t c rows a e g =
    let r : Sent = record { chain = c; rows = rows; start = a; end = e } in
    rw (step_is t r g) (counts_good t r (counts t.asked r) refl g)

-- ---- THE BATCH: a single claim about the list
abbrev added : Tally → List Sent → Tally
added t rs = grown t (total length_of rs) (total kept_of rs) (total dropped_of rs)

regroup : (a b c : ℕ) → a + b + c ≡ a + (b + c)
regroup a b c = omega arith

plus_none : (a : ℕ) → a ≡ a + 0
plus_none a = omega arith

none_plus : (a : ℕ) → 0 + a ≡ a
none_plus a = omega arith

sent_added : (rs : List Sent) (t : Tally) → Good t → sent_through t rs ≡ added t (counted rs t.asked)
unfolding sent_through counted total
sent_added [] t g = λ i. record { asked = plus_none t.asked i; kept = plus_none t.kept i; dropped = plus_none t.dropped i }
sent_added (r ∷ rs) t g = rw (step_is t r g) (go (counts t.asked r) (counts_good t r (counts t.asked r) refl g) (sent_added rs))
  where
    go : (b : Bool) → Good (if_counts b t r) → ((u : Tally) → Good u → sent_through u rs ≡ added u (counted rs u.asked))
        → sent_through (if_counts b t r) rs ≡ added t (add_if b r (counted rs) t.asked)
    go true d rec =
        rec (if_counts true t r) d
        ∙ (λ i. record {
          asked = regroup t.asked (length_of r) (total length_of (counted rs (t.asked + length_of r))) i;
          kept = regroup t.kept (kept_of r) (total kept_of (counted rs (t.asked + length_of r))) i;
          dropped = regroup t.dropped (dropped_of r) (total dropped_of (counted rs (t.asked + length_of r))) i;
        })
    go false d rec = rec t d

-- after every list of regions the three fields equal the sums
pub batch : (rs : List Sent) → sent_through zero_tally rs ≡ sums rs
unfolding sums
batch rs = sent_added rs zero_tally zero_good
    ∙ (λ i. record {
      asked = none_plus (total length_of (counted rs 0)) i;
      kept = none_plus (total kept_of (counted rs 0)) i;
      dropped = none_plus (total dropped_of (counted rs 0)) i;
    })

-- ---- what a refusal does to a tally, good or bad
carried_refused : (size : ℕ) (ps : List Pair) (a e : ℕ) (x : Refusal) → carried size ps a e ≡ Err x → (x.reason ≡ NoPair) × (kept ps a e ≡ 0)
unfolding carried
carried_refused size ps a e x h = go (leb 1 (kept ps a e)) refl h
  where
    go : (b : Bool) → leb 1 (kept ps a e) ≡ b → require b (not_lifted NoPair) (Ok (region_of size ps a e)) ≡ Err x → (x.reason ≡ NoPair) × (kept ps a e ≡ 0)
    go true k l = absurd (let z : ◌≡◌ {A = ℕ} 0 1 = cc in omega arith)
    go false k l =
        let d : ◌≡◌ {A = Refusal} (record { reason = NoPair; place = 0 }) x = cc in
        (sym (ap (λ (z : Refusal). z.reason) d), omega (arith, leb-false 1 (kept ps a e) k))

-- one test of the step
module _ (x : Refusal) (t : Tally) where
  left_if : (b : Bool) (why : Reason) (rest : Tallied) → (rest.answer ≡ Err x → rest.tally ≡ t) → (require b (not_tallied t why) rest).answer ≡ Err x → (require b (not_tallied t why) rest).tally ≡ t
  left_if true why rest f = f
  left_if false why rest f = λ h. refl

  grown_if : (u : Tally) (b : Bool) (why : Reason) (rest : Tallied) → x.reason ≡ NoPair → (reason_number why ≡ 12 → ⊥) → (rest.answer ≡ Err x → rest.tally ≡ u)
      → (require b (not_tallied t why) rest).answer ≡ Err x → (require b (not_tallied t why) rest).tally ≡ u
  grown_if u true why rest k n f = f
  grown_if u false why rest k n f = λ h. absurd (n (let d : ◌≡◌ {A = Refusal} (record { reason = why; place = 0 }) x = cc in ap reason_number (ap (λ (z : Refusal). z.reason) d ∙ k)))

-- a refusal other than 12 leaves the tally
pub refused_leaves : (t : Tally) (c : Chain) (rows : List Row) (a e : ℕ) (x : Refusal) → (tally_step t c rows a e).answer ≡ Err x → (x.reason ≡ NoPair → ⊥)
    → (tally_step t c rows a e).tally ≡ t
unfolding tally_step
refused_leaves t c rows a e x h n =
    left_if x t (accepted c rows) BlockRules _
    (left_if x t (inside c a e) OutsideTarget _
    (left_if x t (good_tally t) CountsDisagree _
    (left_if x t (leb (t.asked + (e - a)) tally_limit) NumberOutOfRange _ (λ k. absurd (n (carried_refused c.qSize (pairs c rows) a e x k).0))))) h

-- a region refused by 12 adds its length to asked and dropped
pub refused_adds : (t : Tally) (c : Chain) (rows : List Row) (a e : ℕ) (x : Refusal) → (tally_step t c rows a e).answer ≡ Err x → x.reason ≡ NoPair
    → (tally_step t c rows a e).tally ≡ grown t (e - a) 0 (e - a)
unfolding tally_step
refused_adds t c rows a e x h n =
    grown_if x t _ (accepted c rows) BlockRules _ n (λ d. omega arith)
    (grown_if x t _ (inside c a e) OutsideTarget _ n (λ d. omega arith)
    (grown_if x t _ (good_tally t) CountsDisagree _ n (λ d. omega arith)
    (grown_if x t _ (leb (t.asked + (e - a)) tally_limit) NumberOutOfRange _ n (λ d. omega arith) last))) h
  where
    last : carried c.qSize (pairs c rows) a e ≡ Err x → grown t (e - a) (kept (pairs c rows) a e) (dropped (pairs c rows) a e) ≡ grown t (e - a) 0 (e - a)
    last k =
        let z = (carried_refused c.qSize (pairs c rows) a e x k).1 in
        let d : dropped (pairs c rows) a e ≡ e - a = omega (arith, kept_dropped (pairs c rows) a e) in
        rw (z, d)

-- lists sent one after the other
pub sent_append : (xs ys : List Sent) (t : Tally) → sent_through t (xs ++ ys) ≡ sent_through (sent_through t xs) ys
unfolding sent_through
sent_append [] ys t = refl
sent_append (x ∷ xs) ys t = sent_append xs ys (tally_step t x.chain x.rows x.start x.end).tally

-- where the tally is good and has room, the answer is the region's lift
pub step_lifts : (t : Tally) (c : Chain) (rows : List Row) (a e : ℕ) → Good t → t.asked + (e - a) ≤ tally_limit → (tally_step t c rows a e).answer ≡ lift_region c rows a e
unfolding tally_step lift_region
step_lifts t c rows a e g h = rw (good_is t g, le-leb _ _ h) (go (accepted c rows) (inside c a e) _)
  where
    go : (x y : Bool) (u : Tally) → (require x (not_tallied t BlockRules) (require y (not_tallied t OutsideTarget) (record { tally = u; answer = carried c.qSize (pairs c rows) a e }))).answer
        ≡ require x (not_lifted BlockRules) (require y (not_lifted OutsideTarget) (carried c.qSize (pairs c rows) a e))
    go true true u = refl
    go true false u = refl
    go false y u = refl

-- ---- the ways out of `is_good`
module _ (t : Tally) where
  pub kept_over : tally_limit < t.kept → false ≡ good_tally t
  unfolding good_tally
  kept_over h = rw (lt-leb _ _ h)

  pub dropped_over : t.kept ≤ tally_limit → tally_limit < t.dropped → false ≡ good_tally t
  unfolding good_tally
  dropped_over k h = rw (le-leb _ _ k, lt-leb _ _ h)

  pub asked_tested : t.kept ≤ tally_limit → t.dropped ≤ tally_limit → leb t.asked tally_limit && eqb (t.kept + t.dropped) t.asked ≡ good_tally t
  unfolding good_tally
  asked_tested k h = rw (le-leb t.kept tally_limit k, le-leb t.dropped tally_limit h)

  pub good_if : (v : Bool) → v ≡ good_tally t → not v ≡ false → Good t
  good_if v e h = good_of t (sym e ∙ not-false v h)

  pub asked_below : (v : Bool) → v ≡ good_tally t → not v ≡ false → t.asked ≤ tally_limit
  asked_below v e h = (good_if v e h).asked_most

-- ---- the ways out of `admit`
module _ (t : Tally) (size a e : ℕ) (u : Bool) (out : u ≡ not (ltb a e && leb e size)) where
  pub admit_outside : u ≡ true → Err OutsideTarget ≡ admission t size a e
  unfolding admission
  admit_outside h = rw (not-true (ltb a e && leb e size) (sym out ∙ h))

  module _ (h : u ≡ false) (v : Bool) (good : v ≡ good_tally t) where
    pub admit_bad : not v ≡ true → Err CountsDisagree ≡ admission t size a e
    unfolding admission
    admit_bad n = rw (not-false (ltb a e && leb e size) (sym out ∙ h), ← good, not-true v n)

    pub admit_full : not v ≡ false → tally_limit - t.asked < e - a → Err NumberOutOfRange ≡ admission t size a e
    unfolding admission
    admit_full n o =
        let f = good_if t v good n in
        let w : tally_limit < t.asked + (e - a) = omega arith in
        rw (not-false (ltb a e && leb e size) (sym out ∙ h), ← good, not-false v n, lt-leb _ _ w)

    pub admit_good : not v ≡ false → e - a ≤ tally_limit - t.asked → Ok tt ≡ admission t size a e
    unfolding admission
    admit_good n o =
        let f = good_if t v good n in
        let w : t.asked + (e - a) ≤ tally_limit = omega arith in
        rw (not-false (ltb a e && leb e size) (sym out ∙ h), ← good, not-false v n, le-leb _ _ w)

pub grow_is : (t : Tally) (r : Reach) (len : ℕ) (x : Result Region Refusal) → x ≡ answer_of r len → ◌≡◌ {A = Tallied} (record { tally = grown t len r.kept (len - r.kept); answer = x }) (grown_by t r len)
grow_is t r len x e = rw e

-- ---- the ways out of `step_ready`
module _ (t : Tally) (size a e : ℕ) (g : Reach) (x : Result ⊤ Reason) (is : x ≡ admission t size a e) where
  pub step_stays : (r : Tallied) (why : Reason) → x ≡ Err why → r.tally ≡ t → r.answer ≡ not_lifted why → r ≡ step_ready t size g a e
  unfolding step_ready
  step_stays r why k et ea = rw (← is, k) (λ i. record { tally = et i; answer = ea i })

  module _ (k : x ≡ Ok tt) where
    -- what an admitted region is
    admitted : (a < e) × (good_tally t ≡ true) × (t.asked + (e - a) ≤ tally_limit)
    unfolding admission
    admitted = go (ltb a e) (leb e size) (good_tally t) (leb (t.asked + (e - a)) tally_limit) refl refl refl (sym k ∙ is)
      where
        go : (b c d f : Bool) → ltb a e ≡ b → good_tally t ≡ d → leb (t.asked + (e - a)) tally_limit ≡ f
            → Ok tt ≡ if_admitted (b && c) OutsideTarget (if_admitted d CountsDisagree (if_admitted f NumberOutOfRange (Ok tt))) → (a < e) × (good_tally t ≡ true) × (t.asked + (e - a) ≤ tally_limit)
        go false c d f eb ed ef w = absurd (let z : ◌≡◌ {A = ℕ} 0 1 = cc in omega arith)
        go true false d f eb ed ef w = absurd (let z : ◌≡◌ {A = ℕ} 0 1 = cc in omega arith)
        go true true false f eb ed ef w = absurd (let z : ◌≡◌ {A = ℕ} 0 1 = cc in omega arith)
        go true true true false eb ed ef w = absurd (let z : ◌≡◌ {A = ℕ} 0 1 = cc in omega arith)
        go true true true true eb ed ef w = (ltb-true a e eb, ed, leb-true _ _ ef)

    pub step_order : a ≤ e
    step_order = omega (arith, admitted.0)

    pub step_growable : g.kept ≤ e - a → Growable t g (e - a)
    step_growable h = record { fits = h; room = admitted.2; even = (good_of t admitted.1).even }

    pub step_grows : (r : Tallied) → r ≡ grown_by t g (e - a) → r ≡ step_ready t size g a e
    unfolding step_ready
    step_grows r h = rw (← is, k) h

-- ---- the step of an accepted chain is the tally's
pub ready_step : (t : Tally) (c : Chain) (rows : List Row) (a e : ℕ) (g : Reach) → accepted c rows ≡ true → Found c rows a e g → step_ready t c.tSize g a e ≡ tally_step t c rows a e
unfolding step_ready admission tally_step inside
ready_step t c rows a e g ok f = rw ok (go (inside c a e) (good_tally t) (leb (t.asked + (e - a)) tally_limit) refl)
  where
    grows : Reached c.qSize a e (pairs c rows) g → grown_by t g (e - a) ≡ record { tally = grown t (e - a) (kept (pairs c rows) a e) (dropped (pairs c rows) a e); answer = carried c.qSize (pairs c rows) a e }
    grows reach = unfold carried in rw (← reach.is_kept, ← reach.is_low, ← reach.is_high, ← reach.is_dropped)

    go : (b d h : Bool) → inside c a e ≡ b
        → of_admission (if_admitted b OutsideTarget (if_admitted d CountsDisagree (if_admitted h NumberOutOfRange (Ok tt)))) t (grown_by t g (e - a))
        ≡ require b (not_tallied t OutsideTarget) (require d (not_tallied t CountsDisagree) (require h (not_tallied t NumberOutOfRange)
        (record { tally = grown t (e - a) (kept (pairs c rows) a e) (dropped (pairs c rows) a e); answer = carried c.qSize (pairs c rows) a e })))
    go false d h k = refl
    go true false h k = refl
    go true true false k = refl
    go true true true k = grows (f.reached k)

-- ---- the ways out of `tally_step`
module _ (t : Tally) (c : Chain) (ts qs zs : List ℕ) (a e : ℕ) (u : Bool) (ok : u ≡ accepted c (table_of ts qs zs)) (r : Tallied) where
  pub step_not_accepted : not u ≡ true → r.tally ≡ t → r.answer ≡ not_lifted BlockRules → r ≡ tally_step t c (table_of ts qs zs) a e
  unfolding tally_step
  step_not_accepted h et ea = rw (← ok, not-true u h) (λ i. record { tally = et i; answer = ea i })

  pub step_ready_lem : not u ≡ false → (g : Reach) → Found c (table_of ts qs zs) a e g → r ≡ step_ready t c.tSize g a e → r ≡ tally_step t c (table_of ts qs zs) a e
  step_ready_lem h g f k = k ∙ ready_step t c (table_of ts qs zs) a e g (sym ok ∙ not-false u h) f
