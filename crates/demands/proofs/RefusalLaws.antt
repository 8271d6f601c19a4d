-- Each refusal of a lift, a turn or a tallied region exactly in its case, and what a lifted region adds to the tally. Assumes nothing.
use mathlib.Core.Path.{◌≡◌, refl, sym, ap, ◌∙◌}
use mathlib.Core.Bool.{Bool, true, false, ◌&&◌}
use mathlib.Core.List.{List}
use Prim.Native.Nat.{ℕ, ◌+◌, ◌-◌, ◌≤◌, ◌<◌}
use native.Mathlib.Omega.{arith}
use lib.Dec.{leb, ltb}
use borrow.Author.Tests.{lt-ltb, le-ltb, le-leb, lt-leb, ltb-true, leb-true}
use Rattle.std.specs.Prelude.{Ok, Err, Some, None, Result, Option}
use Rattle.ledger.specs.Refusals.{without_text, require}
use Rattle.ledger.specs.declared.Row.{Row}
use Rattle.ledger.specs.declared.Reason.{Reason}
use Rattle.ledger.specs.declared.Reason.TheVariants.{NumberOutOfRange, BlockRules, CountsDisagree, NoRoom, NoPair, OutsideTarget}
use Rattle.ledger.specs.declared.Refusal.{Refusal}
use Rattle.ledger.specs.Limits.{tally_limit}
use Rattle.ledger.specs.Reasons.{reason_number}
use Rattle.text.proofs.Laws.{either}
use Rattle.chain.specs.declared.Chain.{Chain}
use Rattle.lift.specs.Accepted.{accepted}
use Rattle.lift.specs.Pairs.{pairs, partner_of}
use Rattle.lift.specs.Positions as position
use Rattle.lift.proofs.PositionLaws.{lifts, lone}
use Rattle.region.specs.declared.Region.{Region}
use Rattle.region.specs.declared.Tally.{Tally}
use Rattle.region.specs.declared.Tallied.{Tallied}
use Rattle.region.specs.Tallies.{good_tally, grown, not_tallied, tally_step}
use Rattle.region.proofs.TallyLaws.{good_of, step_lifts}
use Rattle.table_lift.specs.Lifts.{RegionTallied}
use Rattle.region.specs.Regions as region
use Rattle.region.proofs.RegionLaws.{region_of, refused_exactly}
use Rattle.turn.specs.Turns as turn
use Rattle.demands.specs.Demand3.{InNone, Inside, PositionRefused, RegionRefused, TurnRefused, TallyRefused}

-- one refusal at place 0 has one number
abbrev at_none : Reason → Refusal
at_none why = without_text why

one_number : (a b : Reason) → at_none a ≡ at_none b → reason_number a ≡ reason_number b
one_number a b e = ap (λ (x : Refusal). reason_number x.reason) e

same_position : (a b : Reason) → position.not_lifted a ≡ position.not_lifted b → reason_number a ≡ reason_number b
same_position a b h = one_number a b (cc)

same_region : (a b : Reason) → region.not_lifted a ≡ region.not_lifted b → reason_number a ≡ reason_number b
same_region a b h = one_number a b (cc)

same_turn : (a b : Reason) → turn.not_turned a ≡ turn.not_turned b → reason_number a ≡ reason_number b
same_turn a b h = one_number a b (cc)

-- ---- positions
module _ (c : Chain) (rows : List Row) (p : ℕ) where
  position_nine : accepted c rows ≡ false → position.lift_position c rows p ≡ position.not_lifted BlockRules
  unfolding position.lift_position
  position_nine e = rw e

  position_thirteen : accepted c rows ≡ true → c.tSize ≤ p → position.lift_position c rows p ≡ position.not_lifted OutsideTarget
  unfolding position.lift_position
  position_thirteen e l = rw (e, le-ltb p c.tSize l)

  position_inside : accepted c rows ≡ true → p < c.tSize → (why : Reason) → position.lift_position c rows p ≡ position.not_lifted why → reason_number why ≡ 12
  unfolding position.lift_position
  position_inside e l why h = go (partner_of p (pairs c rows)) (rw (e, lt-ltb p c.tSize l) at h)
    where
      go : (x : Option ℕ) → position.at_partner p x ≡ position.not_lifted why → reason_number why ≡ 12
      go None k = sym (same_position NoPair why k)
      go (Some b) k = absurd (let z : ◌≡◌ {A = ℕ} 0 1 = cc in omega arith)

  position_by : (why : Reason) (P : Type 0) → position.lift_position c rows p ≡ position.not_lifted why → (accepted c rows ≡ false → reason_number why ≡ 9 → P)
      → (accepted c rows ≡ true → c.tSize ≤ p → reason_number why ≡ 13 → P) → (accepted c rows ≡ true → p < c.tSize → reason_number why ≡ 12 → P) → P
  position_by why P h f g k = go (accepted c rows) refl
    where
      go : (t : Bool) → accepted c rows ≡ t → P
      go false e = f e (same_position why BlockRules (sym h ∙ position_nine e))
      go true e = either c.tSize p P (λ l. g e l (same_position why OutsideTarget (sym h ∙ position_thirteen e l))) (λ l. k e l (position_inside e l why h))

  alone : accepted c rows ≡ true → position.lift_position c rows p ≡ position.not_lifted NoPair → InNone c rows p
  alone e h = λ q m. let w = sym (lifts c rows e p q m) ∙ h in let z : ◌≡◌ {A = ℕ} 0 1 = cc in omega arith

  pub position_refused : PositionRefused c rows p
  position_refused = record {
    nine = (λ h. position_by BlockRules _ h (λ e n. e) (λ e l n. absurd (omega arith)) (λ e l n. absurd (omega arith)), position_nine);
    thirteen = (λ h. position_by OutsideTarget _ h (λ e n. absurd (omega arith)) (λ e l n. (e, l)) (λ e l n. absurd (omega arith)), λ w. position_thirteen w.0 w.1);
    twelve = (λ h. position_by NoPair _ h (λ e n. absurd (omega arith)) (λ e l n. absurd (omega arith)) (λ e l n. (e, l, alone e h)), λ w. lone c rows w.0 p w.1 w.2);
  }

  -- and each at place 0
  pub position_at : (x : Refusal) → position.lift_position c rows p ≡ Err x → x.place ≡ 0
  unfolding position.lift_position
  position_at x h = go (accepted c rows) (ltb p c.tSize) (partner_of p (pairs c rows)) h
    where
      at : (why : Reason) → position.not_lifted why ≡ Err x → x.place ≡ 0
      at why k = let e : at_none why ≡ x = cc in sym (ap (λ (y : Refusal). y.place) e)

      go : (t u : Bool) (y : Option ℕ) → require t (position.not_lifted BlockRules) (require u (position.not_lifted OutsideTarget) (position.at_partner p y)) ≡ Err x → x.place ≡ 0
      go false u y k = at BlockRules k
      go true false y k = at OutsideTarget k
      go true true None k = at NoPair k
      go true true (Some b) k = absurd (let z : ◌≡◌ {A = ℕ} 0 1 = cc in omega arith)

-- ---- regions
module _ (c : Chain) (rows : List Row) (a e : ℕ) where
  region_nine : accepted c rows ≡ false → region.lift_region c rows a e ≡ region.not_lifted BlockRules
  unfolding region.lift_region
  region_nine k = rw k

  outside : (Inside c a e → ⊥) → region.inside c a e ≡ false
  unfolding region.inside
  outside f = go (ltb a e) (leb e c.tSize) refl refl
    where
      go : (t u : Bool) → ltb a e ≡ t → leb e c.tSize ≡ u → (t && u) ≡ false
      go true true p q = absurd (f (ltb-true a e p, leb-true e c.tSize q))
      go true false p q = refl
      go false u p q = refl

  region_thirteen : accepted c rows ≡ true → (Inside c a e → ⊥) → region.lift_region c rows a e ≡ region.not_lifted OutsideTarget
  unfolding region.lift_region
  region_thirteen k f = rw (k, outside f)

  region_inside : accepted c rows ≡ true → Inside c a e → (why : Reason) → region.lift_region c rows a e ≡ region.not_lifted why → reason_number why ≡ 12
  unfolding region.lift_region region.inside region.carried
  region_inside k w why h = go (leb 1 (region.kept (pairs c rows) a e)) (rw (k, lt-ltb a e w.0, le-leb e c.tSize w.1) at h)
    where
      go : (t : Bool) → require t (region.not_lifted NoPair) (Ok (region_of c.qSize (pairs c rows) a e)) ≡ region.not_lifted why → reason_number why ≡ 12
      go true q = absurd (let z : ◌≡◌ {A = ℕ} 0 1 = cc in omega arith)
      go false q = sym (same_region NoPair why q)

  by_inside : (P : Type 0) → (Inside c a e → P) → ((Inside c a e → ⊥) → P) → P
  by_inside P f g =
      either e a P (λ l. g (λ w. omega (arith, w.0)))
      (λ l. either e c.tSize P (λ m. f (l, m)) (λ m. g (λ w. omega (arith, w.1))))

  region_by : (why : Reason) (P : Type 0) → region.lift_region c rows a e ≡ region.not_lifted why → (accepted c rows ≡ false → reason_number why ≡ 9 → P)
      → (accepted c rows ≡ true → (Inside c a e → ⊥) → reason_number why ≡ 13 → P) → (accepted c rows ≡ true → Inside c a e → reason_number why ≡ 12 → P) → P
  region_by why P h f g k = go (accepted c rows) refl
    where
      go : (t : Bool) → accepted c rows ≡ t → P
      go false q = f q (same_region why BlockRules (sym h ∙ region_nine q))
      go true q = by_inside P (λ w. k q w (region_inside q w why h)) (λ w. g q w (same_region why OutsideTarget (sym h ∙ region_thirteen q w)))

  pub region_refused : RegionRefused c rows a e
  region_refused = record {
    nine = (λ h. region_by BlockRules _ h (λ q n. q) (λ q w n. absurd (omega arith)) (λ q w n. absurd (omega arith)), region_nine);
    thirteen = (λ h. region_by OutsideTarget _ h (λ q n. absurd (omega arith)) (λ q w n. (q, w)) (λ q w n. absurd (omega arith)), λ w. region_thirteen w.0 w.1);
    twelve = (
      λ h. region_by NoPair _ h (λ q n. absurd (omega arith)) (λ q w n. absurd (omega arith))
          (λ q w n. (q, w, λ p i j r m. (refused_exactly c rows q a e w.0 w.1).0 h p r i j m)),
      λ w. (refused_exactly c rows w.0 a e w.1.0 w.1.1).1 (λ p q i j m. w.2 p i j q m),
    );
  }

  pub region_at : (x : Refusal) → region.lift_region c rows a e ≡ Err x → x.place ≡ 0
  unfolding region.lift_region region.carried
  region_at x h = go (accepted c rows) (region.inside c a e) (leb 1 (region.kept (pairs c rows) a e)) h
    where
      at : (why : Reason) → region.not_lifted why ≡ Err x → x.place ≡ 0
      at why k = let w : at_none why ≡ x = cc in sym (ap (λ (y : Refusal). y.place) w)

      go : (t u v : Bool) → require t (region.not_lifted BlockRules) (require u (region.not_lifted OutsideTarget) (require v (region.not_lifted NoPair) (Ok (region_of c.qSize (pairs c rows) a e)))) ≡ Err x → x.place ≡ 0
      go false u v k = at BlockRules k
      go true false v k = at OutsideTarget k
      go true true false k = at NoPair k
      go true true true k = absurd (let z : ◌≡◌ {A = ℕ} 0 1 = cc in omega arith)

-- ---- turns
module _ (c : Chain) (rows : List Row) (room : ℕ) where
  turn_nine : accepted c rows ≡ false → turn.turn c rows room ≡ turn.not_turned BlockRules
  unfolding turn.turn
  turn_nine e = rw e

  turn_eleven : accepted c rows ≡ true → room < c.blockCount → turn.turn c rows room ≡ turn.not_turned NoRoom
  unfolding turn.turn
  turn_eleven e l = rw (e, lt-leb c.blockCount room l)

  turn_not : accepted c rows ≡ true → c.blockCount ≤ room → (why : Reason) → turn.turn c rows room ≡ turn.not_turned why → ⊥
  unfolding turn.turn
  turn_not e l why h = let w = rw (e, le-leb c.blockCount room l) at h in let z : ◌≡◌ {A = ℕ} 0 1 = cc in omega arith

  turn_by : (why : Reason) (P : Type 0) → turn.turn c rows room ≡ turn.not_turned why → (accepted c rows ≡ false → reason_number why ≡ 9 → P)
      → (accepted c rows ≡ true → room < c.blockCount → reason_number why ≡ 11 → P) → P
  turn_by why P h f g = go (accepted c rows) refl
    where
      go : (t : Bool) → accepted c rows ≡ t → P
      go false e = f e (same_turn why BlockRules (sym h ∙ turn_nine e))
      go true e = either c.blockCount room P (λ l. absurd (turn_not e l why h)) (λ l. g e l (same_turn why NoRoom (sym h ∙ turn_eleven e l)))

  pub turn_refused : TurnRefused c rows room
  turn_refused = record {
    nine = (λ h. turn_by BlockRules _ h (λ e n. e) (λ e l n. absurd (omega arith)), turn_nine);
    eleven = (λ h. turn_by NoRoom _ h (λ e n. absurd (omega arith)) (λ e l n. (e, l)), λ w. turn_eleven w.0 w.1);
  }

-- ---- the tally
module _ (t : Tally) (c : Chain) (rows : List Row) (a e : ℕ) where
  within : Inside c a e → region.inside c a e ≡ true
  unfolding region.inside
  within w = rw (lt-ltb a e w.0, le-leb e c.tSize w.1)

  tally_nine : accepted c rows ≡ false → (tally_step t c rows a e).answer ≡ region.not_lifted BlockRules
  unfolding tally_step
  tally_nine q = rw q

  tally_thirteen : accepted c rows ≡ true → (Inside c a e → ⊥) → (tally_step t c rows a e).answer ≡ region.not_lifted OutsideTarget
  unfolding tally_step
  tally_thirteen q f = rw (q, outside c rows a e f)

  tally_ten : accepted c rows ≡ true → Inside c a e → good_tally t ≡ false → (tally_step t c rows a e).answer ≡ region.not_lifted CountsDisagree
  unfolding tally_step
  tally_ten q w g = rw (q, within w, g)

  tally_five : accepted c rows ≡ true → Inside c a e → good_tally t ≡ true → tally_limit < t.asked + (e - a) → (tally_step t c rows a e).answer ≡ region.not_lifted NumberOutOfRange
  unfolding tally_step
  tally_five q w g l = rw (q, within w, g, lt-leb (t.asked + (e - a)) tally_limit l)

  tally_else : good_tally t ≡ true → t.asked + (e - a) ≤ tally_limit → (tally_step t c rows a e).answer ≡ region.lift_region c rows a e
  tally_else g l = step_lifts t c rows a e (good_of t g) l

  tally_by : (why : Reason) (P : Type 0) → (tally_step t c rows a e).answer ≡ region.not_lifted why → (accepted c rows ≡ false → reason_number why ≡ 9 → P)
      → (accepted c rows ≡ true → (Inside c a e → ⊥) → reason_number why ≡ 13 → P) → (accepted c rows ≡ true → Inside c a e → good_tally t ≡ false → reason_number why ≡ 10 → P)
      → (accepted c rows ≡ true → Inside c a e → good_tally t ≡ true → tally_limit < t.asked + (e - a) → reason_number why ≡ 5 → P)
      → (good_tally t ≡ true → t.asked + (e - a) ≤ tally_limit → region.lift_region c rows a e ≡ region.not_lifted why → reason_number why ≡ 12 → P) → P
  tally_by why P h nine thirteen ten five twelve = go (accepted c rows) (good_tally t) refl refl
    where
      go : (u v : Bool) → accepted c rows ≡ u → good_tally t ≡ v → P
      go false v q g = nine q (same_region why BlockRules (sym h ∙ tally_nine q))
      go true v q g = by_inside c rows a e P (λ w. inner v q g w) (λ f. thirteen q f (same_region why OutsideTarget (sym h ∙ tally_thirteen q f)))
        where
          inner : (v : Bool) → accepted c rows ≡ true → good_tally t ≡ v → Inside c a e → P
          inner false q g w = ten q w g (same_region why CountsDisagree (sym h ∙ tally_ten q w g))
          inner true q g w =
              either (t.asked + (e - a)) tally_limit P
              (λ l. let k = sym (tally_else g l) ∙ h in twelve g l k (region_inside c rows a e q w why k))
              (λ l. five q w g l (same_region why NumberOutOfRange (sym h ∙ tally_five q w g l)))

  tally_step_lem : TallyRefused t c rows a e (tally_step t c rows a e).answer
  tally_step_lem = record {
    nine = (λ h. tally_by BlockRules _ h (λ q n. q) (λ q f n. absurd (omega arith)) (λ q w g n. absurd (omega arith)) (λ q w g l n. absurd (omega arith)) (λ g l k n. absurd (omega arith)), tally_nine);
    thirteen = (
      λ h. tally_by OutsideTarget _ h (λ q n. absurd (omega arith)) (λ q f n. (q, f)) (λ q w g n. absurd (omega arith)) (λ q w g l n. absurd (omega arith)) (λ g l k n. absurd (omega arith)),
      λ k. tally_thirteen k.0 k.1,
    );
    ten = (
      λ h. tally_by CountsDisagree _ h (λ q n. absurd (omega arith)) (λ q f n. absurd (omega arith)) (λ q w g n. (q, w, g)) (λ q w g l n. absurd (omega arith)) (λ g l k n. absurd (omega arith)),
      λ k. tally_ten k.0 k.1 k.2,
    );
    five = (
      λ h. tally_by NumberOutOfRange _ h (λ q n. absurd (omega arith)) (λ q f n. absurd (omega arith)) (λ q w g n. absurd (omega arith)) (λ q w g l n. (q, w, g, l)) (λ g l k n. absurd (omega arith)),
      λ k. tally_five k.0 k.1 k.2 k.3,
    );
    twelve = (
      λ h. tally_by NoPair _ h (λ q n. absurd (omega arith)) (λ q f n. absurd (omega arith)) (λ q w g n. absurd (omega arith)) (λ q w g l n. absurd (omega arith))
          (λ g l k n. let y = (region_refused c rows a e).twelve.0 k in (y.0, y.1, g, l, y.2)),
      λ k. tally_else k.2 k.3 ∙ (region_refused c rows a e).twelve.1 (k.0, k.1, k.4),
    );
    else = tally_else;
  }

pub tally_refused : (t u : Tally) (c : Chain) (rows : List Row) (a e : ℕ) (x : Result Region Refusal) → RegionTallied t c rows a e u x → TallyRefused t c rows a e x
tally_refused t u c rows a e x h = rw h.is (tally_step_lem t c rows a e)

-- a refused turn is at place 0
pub turn_at : (c : Chain) (rows : List Row) (room : ℕ) (x : Refusal) → Err x ≡ turn.turn c rows room → x.place ≡ 0
unfolding turn.turn
turn_at c rows room x h = go (accepted c rows) (leb c.blockCount room) h
  where
    go : (t u : Bool) → Err x ≡ require t (turn.not_turned BlockRules) (require u (turn.not_turned NoRoom) (Ok (turn.turned c))) → x.place ≡ 0
    go false u k = cc
    go true false k = cc
    go true true k = absurd (let z : ◌≡◌ {A = ℕ} 0 1 = cc in omega arith)

-- and so is a refused region that is tallied
pub tally_at : (t : Tally) (c : Chain) (rows : List Row) (a e : ℕ) (x : Refusal) → (tally_step t c rows a e).answer ≡ Err x → x.place ≡ 0
unfolding tally_step region.carried
tally_at t c rows a e x h = go (accepted c rows) (region.inside c a e) (good_tally t) (leb (t.asked + (e - a)) tally_limit) (leb 1 (region.kept (pairs c rows) a e)) _ _ h
  where
    go : (v w y z o : Bool) (u : Tally) (r : Region)
        → (require v (not_tallied t BlockRules) (require w (not_tallied t OutsideTarget) (require y (not_tallied t CountsDisagree) (require z (not_tallied t NumberOutOfRange) (record { tally = u; answer = require o (region.not_lifted NoPair) (Ok r) }))))).answer ≡ Err x
        → x.place ≡ 0
    go false w y z o u r k = let q = sym k in cc
    go true false y z o u r k = let q = sym k in cc
    go true true false z o u r k = let q = sym k in cc
    go true true true false o u r k = let q = sym k in cc
    go true true true true false u r k = let q = sym k in cc
    go true true true true true u r k = absurd (let z : ◌≡◌ {A = ℕ} 0 1 = cc in omega arith)

-- a tallied region that lifts, lifts as it does without a tally
pub lifted_step : (t : Tally) (c : Chain) (rows : List Row) (a e : ℕ) (r : Region) → (tally_step t c rows a e).answer ≡ Ok r → region.lift_region c rows a e ≡ Ok r
unfolding tally_step region.lift_region
lifted_step t c rows a e r h = go (accepted c rows) (region.inside c a e) (good_tally t) (leb (t.asked + (e - a)) tally_limit) _ (region.carried c.qSize (pairs c rows) a e) h
  where
    go : (v w x y : Bool) (u : Tally) (z : Result Region Refusal)
        → (require v (not_tallied t BlockRules) (require w (not_tallied t OutsideTarget) (require x (not_tallied t CountsDisagree) (require y (not_tallied t NumberOutOfRange) (record { tally = u; answer = z }))))).answer ≡ Ok r
        → require v (region.not_lifted BlockRules) (require w (region.not_lifted OutsideTarget) z) ≡ Ok r
    go false w x y u z k = absurd (let o : ◌≡◌ {A = ℕ} 0 1 = cc in omega arith)
    go true false x y u z k = absurd (let o : ◌≡◌ {A = ℕ} 0 1 = cc in omega arith)
    go true true false y u z k = absurd (let o : ◌≡◌ {A = ℕ} 0 1 = cc in omega arith)
    go true true true false u z k = absurd (let o : ◌≡◌ {A = ℕ} 0 1 = cc in omega arith)
    go true true true true u z k = k

-- a region that lifts adds its length, its kept and its dropped bases
pub tally_grows : (t u : Tally) (c : Chain) (rows : List Row) (a e : ℕ) (r : Region) → RegionTallied t c rows a e u (Ok r) → u ≡ grown t (e - a) r.kept r.dropped
unfolding tally_step region.carried
tally_grows t u c rows a e r h =
    h.tally ∙ go (accepted c rows) (region.inside c a e) (good_tally t) (leb (t.asked + (e - a)) tally_limit) (leb 1 (region.kept (pairs c rows) a e)) h.is
  where
    done : Bool → Bool → Bool → Bool → Bool → Tallied
    done v w x y z =
        require v (not_tallied t BlockRules)
        (require w (not_tallied t OutsideTarget)
        (require x (not_tallied t CountsDisagree)
        (require y (not_tallied t NumberOutOfRange)
        (record {
          tally = grown t (e - a) (region.kept (pairs c rows) a e) (region.dropped (pairs c rows) a e);
          answer = require z (region.not_lifted NoPair) (Ok (region_of c.qSize (pairs c rows) a e));
        }))))

    go : (v w x y z : Bool) → Ok r ≡ (done v w x y z).answer → (done v w x y z).tally ≡ grown t (e - a) r.kept r.dropped
    go false w x y z k = absurd (let o : ◌≡◌ {A = ℕ} 0 1 = cc in omega arith)
    go true false x y z k = absurd (let o : ◌≡◌ {A = ℕ} 0 1 = cc in omega arith)
    go true true false y z k = absurd (let o : ◌≡◌ {A = ℕ} 0 1 = cc in omega arith)
    go true true true false z k = absurd (let o : ◌≡◌ {A = ℕ} 0 1 = cc in omega arith)
    go true true true true false k = absurd (let o : ◌≡◌ {A = ℕ} 0 1 = cc in omega arith)
    go true true true true true k = let q : region_of c.qSize (pairs c rows) a e ≡ r = cc in ap (λ (y : Region). grown t (e - a) y.kept y.dropped) q
