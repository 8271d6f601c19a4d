-- Demand 3 on positions: at most one pair for a target base, and a lift exactly where there is one. Assumes nothing.
use mathlib.Core.Path.{◌≡◌, refl, sym, ap, ap₂, ◌∙◌}
use mathlib.Core.Logic.{⊎_elim, ◌↔◌}
use mathlib.Core.Bool.{Bool, true, false, not}
use mathlib.Core.List.Memᴰ
use mathlib.Core.List.{List, [], ◌∷◌, Memᴰ}
use Prim.Native.Nat.{ℕ, zero, suc, ◌+◌, ◌-◌, ◌≤◌, ◌<◌}
use native.Mathlib.Omega.{arith}
use lib.IntN.{ℤ, pos, ◌-ℤ◌}
use lib.Signed.{mag}
use lib.Dec.{ltb}
use borrow.Author.Tests.{lt-ltb, le-ltb, not-true}
use mir.Syntax.{w64}
use mir.Val.{SFits, to_z, of_z}
use mir.Facts.{to_z_pos, to_z-of_z}
use Rattle.ledger.specs.Refusals.{require}
use Rattle.ledger.specs.declared.Strand.{Strand}
use Rattle.ledger.specs.declared.Strand.TheVariants.{Plus, Minus, Dot}
use Rattle.ledger.specs.declared.Row.{Row}
use Rattle.ledger.specs.declared.Reason.TheVariants.{BlockRules, NoPair, OutsideTarget}
use Rattle.ledger.specs.Limits.{largest_position}
use Rattle.blocks.specs.Rows.{target_end, query_end, table_of}
use Rattle.chain.specs.declared.Chain.{Chain}
use Rattle.lift.specs.Accepted.{accepted, used, Ready}
use Rattle.lift.specs.Pairs.{Pair, pair, forward_on, forward, block_pairs, pairs_of, pairs, partner_of}
use Rattle.lift.specs.Positions.{not_lifted, at_partner, lift_position}
use Rattle.lift.proofs.RunLaws.{either, Run, run_below}
use Rattle.lift.proofs.PairLaws.{in_block_lem, found_mem, mem_found}
use Rattle.lift.proofs.AcceptLaws.{accepted_rules}
use Rattle.std.specs.Prelude.{Ok, Some, None, Result, Option}
use Rattle.ledger.specs.declared.Refusal.{Refusal}

-- ---- the drift of two coordinates, as a signed word of the machine holds it
mag_less : (b a m : ℕ) → b ≤ m → a ≤ m → mag (pos b -ℤ pos a) ≤ m
mag_less b zero m h k = omega arith
mag_less b (suc a) m h k = either (suc a) b _
    (λ l. rw (le-ltb b (suc a) l) (omega arith))
    (λ l. rw (lt-ltb b (suc a) l) (omega arith))

module _ (a b : ℕ) (ha : a ≤ 2147483647) (hb : b ≤ 2147483647) where
  small : (n : ℕ) → n ≤ 2147483647 → to_z w64 n ≡ pos n
  small n h = to_z_pos w64 {n = n} (let z : n < 9223372036854775808 = omega arith in z)

  pub less_fits : SFits w64 (pos b -ℤ pos a)
  less_fits = record { sfits = (let z : mag (pos b -ℤ pos a) < 9223372036854775808 = omega (arith, mag_less b a 2147483647 hb ha) in z) }

  pub drift_fits : SFits w64 (to_z w64 b -ℤ to_z w64 a)
  drift_fits = rw (small a ha, small b hb) less_fits

  pub drift_is : to_z w64 (of_z w64 (to_z w64 b -ℤ to_z w64 a)) ≡ pos b -ℤ pos a
  drift_is = to_z-of_z drift_fits ∙ ap₂ ◌-ℤ◌ (small b hb) (small a ha)

-- a pair's bases lie within the spans
pub record Within (f : ℕ → ℕ) (te qe : ℕ) (x : Pair) : Type 0 where
  pub base : ℕ
  pub target_in : x.target < te
  pub base_in : base < qe
  pub query_is : x.query ≡ f base

pub mem_within : (f : ℕ → ℕ) (te qe a b : ℕ) (bs : List Row) (x : Pair) → Run te qe a b bs → Memᴰ x (pairs_of f bs) → Within f te qe x
unfolding pairs_of
mem_within f te qe a b [] x r m = absurd (Memᴰ.not-nil m)
mem_within f te qe a b (y ∷ ys) x r m = ⊎_elim
    (λ k. let h = in_block_lem f y.target y.query y.size x k in
    let l = run_below te qe (target_end y) (query_end y) ys r.3 in
    record { base = y.query + (x.target - y.target); target_in = omega (arith, h.1); base_in = omega (arith, h.0, h.1); query_is = h.2 })
    (λ k. mem_within f te qe (target_end y) (query_end y) ys x r.3 k)
    (Memᴰ.append_cases (block_pairs f y.target y.query y.size) m)

pub forward_below : (k : Strand) (size b : ℕ) → b < size → forward_on k size b < size
forward_below Plus size b h = h
forward_below Minus size b h = omega arith
forward_below Dot size b h = h

module _ (c : Chain) (rows : List Row) (ok : accepted c rows ≡ true) where
  run : Run c.tEnd c.qEnd c.tStart c.qStart (used c rows)
  run = (accepted_rules c rows ok).placed.run

  -- at most one pair for a target base
  pub one_partner : (p q q' : ℕ) → Memᴰ (pair p q) (pairs c rows) → Memᴰ (pair p q') (pairs c rows) → q ≡ q'
  unfolding pairs
  one_partner p q q' m n =
      let u = mem_found (forward c) _ _ _ _ (used c rows) (pair p q) run m in
      let v = mem_found (forward c) _ _ _ _ (used c rows) (pair p q') run n in cc

  pub pair_found : (p q : ℕ) → Memᴰ (pair p q) (pairs c rows) → partner_of p (pairs c rows) ≡ Some q
  unfolding pairs
  pair_found p q m = mem_found (forward c) _ _ _ _ (used c rows) (pair p q) run m

  -- a pair lies inside both sequences
  pub pair_inside : (p q : ℕ) → Memᴰ (pair p q) (pairs c rows) → (p < c.tSize) × (q < c.qSize)
  unfolding pairs
  pair_inside p q m =
      let w = mem_within (forward c) c.tEnd c.qEnd c.tStart c.qStart (used c rows) (pair p q) run m in
      let r = accepted_rules c rows ok in
      let t : p < c.tEnd = w.target_in in
      let l : w.base < c.qSize = omega (arith, w.base_in) in
      (omega arith, rw w.query_is (forward_below c.qStrand c.qSize w.base l))

  -- a position in a pair lifts to its partner
  pub lifts : (p q : ℕ) → Memᴰ (pair p q) (pairs c rows) → lift_position c rows p ≡ Ok (q, pos q -ℤ pos p)
  unfolding lift_position
  lifts p q m = rw (ok, lt-ltb p c.tSize (pair_inside p q m).0, pair_found p q m)

  -- and what lifts stands in a pair
  pub lifted_lem : (p q : ℕ) (d : ℤ) → lift_position c rows p ≡ Ok (q, d) → Memᴰ (pair p q) (pairs c rows) × (d ≡ pos q -ℤ pos p)
  unfolding lift_position
  lifted_lem p q d e = go (ltb p c.tSize) (partner_of p (pairs c rows)) refl (rw ok at e)
    where
      go : (t : Bool) (x : Option ℕ) → partner_of p (pairs c rows) ≡ x → require t (not_lifted OutsideTarget) (at_partner p x) ≡ Ok (q, d) → Memᴰ (pair p q) (pairs c rows) × (d ≡ pos q -ℤ pos p)
      go false x k h = absurd (let z : ◌≡◌ {A = ℕ} 0 1 = cc in omega arith)
      go true None k h = absurd (let z : ◌≡◌ {A = ℕ} 0 1 = cc in omega arith)
      go true (Some b) k h =
          let w : ◌≡◌ {A = ℕ × ℤ} (b, pos b -ℤ pos p) (q, d) = cc in
          let z : b ≡ q = ap (λ (x : ℕ × ℤ). x.0) w in
          let y : pos b -ℤ pos p ≡ d = ap (λ (x : ℕ × ℤ). x.1) w in
          (found_mem p q (pairs c rows) (k ∙ ap Some z), sym y ∙ ap (λ (n : ℕ). pos n -ℤ pos p) z)

  -- A POSITION LIFTS TO q EXACTLY WHEN IT STANDS IN A PAIR WITH q
  pub lifts_exactly : (p q : ℕ) → (lift_position c rows p ≡ Ok (q, pos q -ℤ pos p)) ↔ Memᴰ (pair p q) (pairs c rows)
  lifts_exactly p q = (λ e. (lifted_lem p q (pos q -ℤ pos p) e).0, λ m. lifts p q m)

  -- a position inside the target that stands in no pair is refused by 12
  pub lone : (p : ℕ) → p < c.tSize → ((q : ℕ) → Memᴰ (pair p q) (pairs c rows) → ⊥) → lift_position c rows p ≡ not_lifted NoPair
  unfolding lift_position
  lone p h f = rw (ok, lt-ltb p c.tSize h) (go (partner_of p (pairs c rows)) refl)
    where
      go : (x : Option ℕ) → partner_of p (pairs c rows) ≡ x → at_partner p (partner_of p (pairs c rows)) ≡ not_lifted NoPair
      go None k = rw k
      go (Some b) k = absurd (f b (found_mem p b (pairs c rows) k))

-- ---- the ways out of `lift_position`: the test fails, or the rows are ready
pub not_accepted : (c : Chain) (rows : List Row) (p : ℕ) (u : Bool) (r : Result (ℕ × ℤ) Refusal) → u ≡ accepted c rows → not u ≡ true → r ≡ not_lifted BlockRules → r ≡ lift_position c rows p
unfolding lift_position
not_accepted c rows p u r e h k = rw (← e, not-true u h) k

module _ (c : Chain) (ts qs zs : List ℕ) (is : Ready c ts qs zs) (p : ℕ) where
  module _ (r : Result (ℕ × ℤ) Refusal) where
    pub past_target : c.tSize ≤ p → r ≡ not_lifted OutsideTarget → r ≡ lift_position c (table_of ts qs zs) p
    unfolding lift_position
    past_target l k = rw (is.ok, le-ltb _ _ l) k

    pub by_partner : p < c.tSize → r ≡ at_partner p (partner_of p (pairs c (table_of ts qs zs))) → r ≡ lift_position c (table_of ts qs zs) p
    unfolding lift_position
    by_partner l k = rw (is.ok, lt-ltb _ _ l) k

  module _ (x : Option ℕ) (e : x ≡ partner_of p (pairs c (table_of ts qs zs))) where
    -- both bases are coordinates
    partnered : (b : ℕ) → x ≡ Some b → (p < c.tSize) × (b < c.qSize)
    partnered b l = pair_inside c (table_of ts qs zs) is.ok p b (found_mem p b (pairs c (table_of ts qs zs)) (sym e ∙ l))

    pub small_target : (b : ℕ) → x ≡ Some b → p ≤ largest_position
    small_target b l = omega (arith, is.t_most, (partnered b l).0)

    pub small_query : (b : ℕ) → x ≡ Some b → b ≤ largest_position
    small_query b l = omega (arith, is.q_most, (partnered b l).1)

    -- the drift, as the answer holds it
    pub lift_at : (b : ℕ) (d : ℤ) → x ≡ Some b → d ≡ pos b -ℤ pos p → Ok (b, to_z w64 (of_z w64 d)) ≡ at_partner p (partner_of p (pairs c (table_of ts qs zs)))
    lift_at b d k h = rw (h, to_z-of_z (less_fits p b (small_target b k) (small_query b k)), ← e, k)

    pub lift_none : (r : Result (ℕ × ℤ) Refusal) → x ≡ None → r ≡ not_lifted NoPair → r ≡ at_partner p (partner_of p (pairs c (table_of ts qs zs)))
    lift_none r k h = rw (← e, k) h
