-- Demand 3 on regions: what a lifted region answers, and where it is refused by 12. Assumes nothing.
use mathlib.Core.Path.{◌≡◌, refl, sym, ap, ap₂, ◌∙◌}
use mathlib.Core.Logic.{◌↔◌, ⊎_elim}
use mathlib.Core.Bool.{Bool, true, false, not, ◌&&◌}
use mathlib.Core.List.Memᴰ
use mathlib.Core.List.{List, [], ◌∷◌, Memᴰ}
use Prim.Native.Nat.{ℕ, zero, suc, ◌+◌, ◌-◌, ◌≤◌, ◌<◌, min, max}
use native.Mathlib.Omega.{arith}
use lib.ListN.{length, length-append}
use lib.Dec.{leb, ltb}
use borrow.Author.Tests.{lt-leb, le-leb, lt-ltb, leb-true, ltb-true, not-true, not-false}
use Rattle.ledger.specs.Refusals.{require}
use Rattle.ledger.specs.declared.Row.{Row}
use Rattle.ledger.specs.declared.Reason.TheVariants.{BlockRules, NoPair, OutsideTarget}
use Rattle.blocks.specs.Rows.{table_of}
use Rattle.blocks.proofs.RuleLaws.{both}
use Rattle.chain.specs.declared.Chain.{Chain}
use Rattle.lift.specs.Accepted.{used, accepted, Ready}
use Rattle.lift.specs.Pairs.{Pair, pair, forward, block_pairs, pairs_of, pairs}
use Rattle.lift.proofs.AcceptLaws.{accepted_rules}
use Rattle.lift.proofs.PositionLaws.{pair_inside}
use Rattle.region.specs.declared.Reach.{Reach}
use Rattle.region.specs.declared.Region.{Region}
use Rattle.region.specs.Regions.{kept, dropped, cons_if, partners_in, least, bound, not_lifted, inside, carried, lift_region}
use Rattle.region.specs.Reaches.{lap, covered, Found, answer_of}
use Rattle.region.proofs.CountLaws.{kept_covered, kept_dropped}
use Rattle.region.proofs.ReachLaws.{bases_from, clip, partners_append}
use Rattle.std.specs.Prelude.{Ok, Result}
use Rattle.ledger.specs.declared.Refusal.{Refusal}

-- the partners in a region are those of its bases, and all of them
pub partner_in : (a e : ℕ) (ps : List Pair) (p q : ℕ) → Memᴰ (pair p q) ps → a ≤ p → p < e → Memᴰ q (partners_in a e ps)
unfolding partners_in
partner_in a e [] p q m h k = absurd (Memᴰ.not-nil m)
partner_in a e (x ∷ xs) p q m h k = ⊎_elim
    (λ d. let t : p ≡ x.target = ap (λ (y : Pair). y.target) d in
    let u : a ≤ x.target = omega arith in let v : x.target < e = omega arith in
    rw (le-leb _ _ u, lt-ltb _ _ v) (Memᴰ.head (ap (λ (y : Pair). y.query) d)))
    (λ l. later (leb a x.target && ltb x.target e) (partner_in a e xs p q l h k))
    (Memᴰ.cases_cons m)
  where
    later : (b : Bool) → Memᴰ q (partners_in a e xs) → Memᴰ q (cons_if b x.query (partners_in a e xs))
    later true l = Memᴰ.tail l
    later false l = l

pub record Holding (a e q : ℕ) (ps : List Pair) : Type 0 where
  pub base : ℕ
  pub first : a ≤ base
  pub below : base < e
  pub in_pairs : Memᴰ (pair base q) ps

pub in_partner : (a e : ℕ) (ps : List Pair) (q : ℕ) → Memᴰ q (partners_in a e ps) → Holding a e q ps
unfolding partners_in
in_partner a e [] q m = absurd (Memᴰ.not-nil m)
in_partner a e (x ∷ xs) q m = go (leb a x.target && ltb x.target e) refl m (in_partner a e xs q)
  where
    wider : Holding a e q xs → Holding a e q (x ∷ xs)
    wider h = record { base = h.base; first = h.first; below = h.below; in_pairs = Memᴰ.tail h.in_pairs }

    go : (b : Bool) → leb a x.target && ltb x.target e ≡ b → Memᴰ q (cons_if b x.query (partners_in a e xs)) → (Memᴰ q (partners_in a e xs) → Holding a e q xs) → Holding a e q (x ∷ xs)
    go false k n rec = wider (rec n)
    go true k n rec = ⊎_elim
        (λ d. let w = both (leb a x.target) (ltb x.target e) k in
        record { base = x.target; first = leb-true _ _ w.0; below = ltb-true _ _ w.1; in_pairs = Memᴰ.head (ap (λ (z : ℕ). pair x.target z) d) })
        (λ l. wider (rec l))
        (Memᴰ.cases_cons n)

-- least and bound hold every number, and no smaller region does
least_start : (d : ℕ) (xs : List ℕ) → least d xs ≤ d
unfolding least
least_start d [] = omega arith
least_start d (x ∷ xs) = omega (arith, least_start (min d x) xs)

pub least_holds : (d : ℕ) (xs : List ℕ) (x : ℕ) → Memᴰ x xs → least d xs ≤ x
unfolding least
least_holds d [] x m = absurd (Memᴰ.not-nil m)
least_holds d (y ∷ ys) x m = ⊎_elim (λ e. omega (arith, least_start (min d y) ys)) (λ k. least_holds (min d y) ys x k) (Memᴰ.cases_cons m)

pub least_greatest : (d l : ℕ) (xs : List ℕ) → l ≤ d → ((x : ℕ) → Memᴰ x xs → l ≤ x) → l ≤ least d xs
unfolding least
least_greatest d l [] h f = h
least_greatest d l (x ∷ xs) h f = least_greatest (min d x) l xs (omega (arith, f x (Memᴰ.head refl))) (λ y m. f y (Memᴰ.tail m))

bound_start : (d : ℕ) (xs : List ℕ) → d ≤ bound d xs
unfolding bound
bound_start d [] = omega arith
bound_start d (x ∷ xs) = omega (arith, bound_start (max d (suc x)) xs)

pub bound_holds : (d : ℕ) (xs : List ℕ) (x : ℕ) → Memᴰ x xs → x < bound d xs
unfolding bound
bound_holds d [] x m = absurd (Memᴰ.not-nil m)
bound_holds d (y ∷ ys) x m = ⊎_elim (λ e. omega (arith, bound_start (max d (suc y)) ys)) (λ k. bound_holds (max d (suc y)) ys x k) (Memᴰ.cases_cons m)

pub bound_least : (d u : ℕ) (xs : List ℕ) → d ≤ u → ((x : ℕ) → Memᴰ x xs → x < u) → bound d xs ≤ u
unfolding bound
bound_least d u [] h f = h
bound_least d u (x ∷ xs) h f = bound_least (max d (suc x)) u xs (omega (arith, f x (Memᴰ.head refl))) (λ y m. f y (Memᴰ.tail m))

-- kept is the number of the partners
bases_length : (f : ℕ → ℕ) (q n : ℕ) → length (bases_from f q n) ≡ n
bases_length f q zero = refl
bases_length f q (suc n) = ap suc (bases_length f (suc q) n)

covered_length : (f : ℕ → ℕ) (a e : ℕ) (bs : List Row) → length (partners_in a e (pairs_of f bs)) ≡ covered a e bs
unfolding pairs_of covered partners_in
covered_length f a e [] = refl
covered_length f a e (b ∷ bs) =
    ap length (partners_append a e (block_pairs f b.target b.query b.size) (pairs_of f bs))
    ∙ length-append (partners_in a e (block_pairs f b.target b.query b.size)) (partners_in a e (pairs_of f bs))
    ∙ ap₂ ◌+◌ (ap length (clip f a e b.target b.query b.size) ∙ bases_length f _ (lap a e b.target b.size)) (covered_length f a e bs)

-- kept is the number of the partners
pub kept_partners : (c : Chain) (rows : List Row) → accepted c rows ≡ true → (a e : ℕ) → a ≤ e → kept (pairs c rows) a e ≡ length (partners_in a e (pairs c rows))
unfolding pairs
kept_partners c rows ok a e h = kept_covered (forward c) _ _ _ _ (used c rows) (accepted_rules c rows ok).placed.run a e h ∙ sym (covered_length (forward c) a e (used c rows))

-- the members of a list, and its length
record Member (xs : List ℕ) : Type 0 where
  it : ℕ
  is_in : Memᴰ it xs

some_member : (xs : List ℕ) → 1 ≤ length xs → Member xs
some_member [] h = absurd (omega arith)
some_member (x ∷ xs) h = record { it = x; is_in = Memᴰ.head refl }

pub no_member : (xs : List ℕ) → ((x : ℕ) → Memᴰ x xs → ⊥) → length xs ≡ 0
no_member [] f = refl
no_member (x ∷ xs) f = absurd (f x (Memᴰ.head refl))

has_member : (xs : List ℕ) (x : ℕ) → Memᴰ x xs → 1 ≤ length xs
has_member [] x m = absurd (Memᴰ.not-nil m)
has_member (y ∷ ys) x m = omega arith

-- ---- what a lift tells
abbrev pub region_of : ℕ → List Pair → ℕ → ℕ → Region
region_of size ps a e = record { kept = kept ps a e; dropped = dropped ps a e; start = least size (partners_in a e ps); end = bound 0 (partners_in a e ps) }

pub record RegionLift (c : Chain) (rows : List Row) (a e : ℕ) (r : Region) : Type 0 where
  pub ok : accepted c rows ≡ true
  pub some : a < e
  pub last : e ≤ c.tSize
  pub kept_some : 1 ≤ r.kept
  pub is_kept : r.kept ≡ kept (pairs c rows) a e
  pub is_dropped : r.dropped ≡ dropped (pairs c rows) a e
  pub is_start : r.start ≡ least c.qSize (partners_in a e (pairs c rows))
  pub is_end : r.end ≡ bound 0 (partners_in a e (pairs c rows))

-- a region that lifts: the chain is accepted, the region lies inside its target, and some base of it is kept
pub region_lifted_lem : (c : Chain) (rows : List Row) (a e : ℕ) (r : Region) → lift_region c rows a e ≡ Ok r → RegionLift c rows a e r
unfolding lift_region inside carried
region_lifted_lem c rows a e r h = go (accepted c rows) (ltb a e) (leb e c.tSize) (leb 1 (kept (pairs c rows) a e)) refl refl refl refl h
  where
    go : (x y z w : Bool) → accepted c rows ≡ x → ltb a e ≡ y → leb e c.tSize ≡ z → leb 1 (kept (pairs c rows) a e) ≡ w
        → require x (not_lifted BlockRules) (require (y && z) (not_lifted OutsideTarget) (require w (not_lifted NoPair) (Ok (region_of c.qSize (pairs c rows) a e)))) ≡ Ok r → RegionLift c rows a e r
    go false y z w ex ey ez ew k = absurd (let d : ◌≡◌ {A = ℕ} 0 1 = cc in omega arith)
    go true false z w ex ey ez ew k = absurd (let d : ◌≡◌ {A = ℕ} 0 1 = cc in omega arith)
    go true true false w ex ey ez ew k = absurd (let d : ◌≡◌ {A = ℕ} 0 1 = cc in omega arith)
    go true true true false ex ey ez ew k = absurd (let d : ◌≡◌ {A = ℕ} 0 1 = cc in omega arith)
    go true true true true ex ey ez ew k =
        let d : region_of c.qSize (pairs c rows) a e ≡ r = cc in
        let n = leb-true 1 (kept (pairs c rows) a e) ew in
        let m : kept (pairs c rows) a e ≡ r.kept = ap (λ (x : Region). x.kept) d in
        record {
          ok = ex;
          some = ltb-true a e ey;
          last = leb-true e c.tSize ez;
          kept_some = omega arith;
          is_kept = sym m;
          is_dropped = sym (ap (λ (x : Region). x.dropped) d);
          is_start = sym (ap (λ (x : Region). x.start) d);
          is_end = sym (ap (λ (x : Region). x.end) d);
        }

module _ (c : Chain) (rows : List Row) (a e : ℕ) (r : Region) (h : lift_region c rows a e ≡ Ok r) where
  told : RegionLift c rows a e r
  told = region_lifted_lem c rows a e r h

  some_partner : Member (partners_in a e (pairs c rows))
  some_partner =
      let l : a ≤ e = omega (arith, told.some) in
      some_member _ (omega (arith, told.is_kept, told.kept_some, kept_partners c rows told.ok a e l))

  -- kept and dropped make up the region
  pub lifted_length : r.kept + r.dropped ≡ e - a
  lifted_length = omega (arith, told.is_kept, told.is_dropped, kept_dropped (pairs c rows) a e)

  -- the query region holds the partner of every base of the region
  pub region_holds : (p q : ℕ) → a ≤ p → p < e → Memᴰ (pair p q) (pairs c rows) → (r.start ≤ q) × (q < r.end)
  region_holds p q k l m =
      let n = partner_in a e (pairs c rows) p q m k l in
      (omega (arith, told.is_start, least_holds c.qSize _ q n), omega (arith, told.is_end, bound_holds 0 _ q n))

  -- and lies within every query region that does
  pub region_smallest : (lo hi : ℕ) → ((p q : ℕ) → a ≤ p → p < e → Memᴰ (pair p q) (pairs c rows) → (lo ≤ q) × (q < hi)) → (lo ≤ r.start) × (r.end ≤ hi)
  region_smallest lo hi f =
      let g = each some_partner.it some_partner.is_in in
      let u = least_greatest c.qSize lo (partners_in a e (pairs c rows)) (omega arith) (λ y n. (each y n).0) in
      let v = bound_least 0 hi (partners_in a e (pairs c rows)) (omega arith) (λ y n. (each y n).1) in
      (omega (arith, told.is_start), omega (arith, told.is_end))
    where
      each : (x : ℕ) → Memᴰ x (partners_in a e (pairs c rows)) → (lo ≤ x) × (x < hi) × (x < c.qSize)
      each x m = let v = in_partner a e (pairs c rows) x m in let g = f v.base x v.first v.below v.in_pairs in
          (g.0, g.1, (pair_inside c rows told.ok v.base x v.in_pairs).1)

  -- it lies inside the query
  pub region_inside : (r.start < r.end) × (r.end ≤ c.qSize)
  region_inside =
      let v = in_partner a e (pairs c rows) some_partner.it some_partner.is_in in
      let g = region_holds v.base some_partner.it v.first v.below v.in_pairs in
      (omega arith, (region_smallest 0 c.qSize (λ p q k l m. (omega arith, (pair_inside c rows told.ok p q m).1))).1)

-- a region inside the target of an accepted chain is refused by 12 exactly when no base of it stands in a pair
pub refused_exactly : (c : Chain) (rows : List Row) → accepted c rows ≡ true → (a e : ℕ) → a < e → e ≤ c.tSize
    → (lift_region c rows a e ≡ not_lifted NoPair) ↔ ((p q : ℕ) → a ≤ p → p < e → Memᴰ (pair p q) (pairs c rows) → ⊥)
unfolding lift_region inside carried
refused_exactly c rows ok a e h k = (λ r. none (rw (ok, lt-ltb a e h, le-leb e c.tSize k) at r), λ f. rw (ok, lt-ltb a e h, le-leb e c.tSize k) (refused f))
  where
    l : a ≤ e
    l = omega arith

    none : require (leb 1 (kept (pairs c rows) a e)) (not_lifted NoPair) (Ok (region_of c.qSize (pairs c rows) a e)) ≡ not_lifted NoPair → (p q : ℕ) → a ≤ p → p < e → Memᴰ (pair p q) (pairs c rows) → ⊥
    none r p q i j m =
        let n = has_member _ q (partner_in a e (pairs c rows) p q m i j) in
        let some : 1 ≤ kept (pairs c rows) a e = omega (arith, kept_partners c rows ok a e l) in
        let d : Ok (region_of c.qSize (pairs c rows) a e) ≡ not_lifted NoPair = rw (le-leb 1 (kept (pairs c rows) a e) some) at r in
        let z : ◌≡◌ {A = ℕ} 0 1 = cc in omega arith

    refused : ((p q : ℕ) → a ≤ p → p < e → Memᴰ (pair p q) (pairs c rows) → ⊥) → require (leb 1 (kept (pairs c rows) a e)) (not_lifted NoPair) (Ok (region_of c.qSize (pairs c rows) a e)) ≡ not_lifted NoPair
    refused f =
        let n = no_member (partners_in a e (pairs c rows)) (λ q m. let v = in_partner a e (pairs c rows) q m in f v.base q v.first v.below v.in_pairs) in
        let z : kept (pairs c rows) a e < 1 = omega (arith, kept_partners c rows ok a e l) in
        rw (lt-leb 1 (kept (pairs c rows) a e) z)

-- ---- the ways out of `lift_region`: the test fails, or the rows are ready
pub region_not_accepted : (c : Chain) (rows : List Row) (a e : ℕ) (u : Bool) (r : Result Region Refusal) → u ≡ accepted c rows → not u ≡ true → r ≡ not_lifted BlockRules → r ≡ lift_region c rows a e
unfolding lift_region
region_not_accepted c rows a e u r ok h k = rw (← ok, not-true u h) k

module _ (c : Chain) (ts qs zs : List ℕ) (is : Ready c ts qs zs) (a e : ℕ) (u : Bool) (out : u ≡ not (ltb a e && leb e c.tSize)) (r : Result Region Refusal) where
  pub region_outside : u ≡ true → r ≡ not_lifted OutsideTarget → r ≡ lift_region c (table_of ts qs zs) a e
  unfolding lift_region inside
  region_outside h k = rw (is.ok, not-true (ltb a e && leb e c.tSize) (sym out ∙ h)) k

  pub region_carried : u ≡ false → (g : Reach) → Found c (table_of ts qs zs) a e g → r ≡ answer_of g (e - a) → r ≡ lift_region c (table_of ts qs zs) a e
  unfolding lift_region inside carried
  region_carried h g found k =
      let w = not-false (ltb a e && leb e c.tSize) (sym out ∙ h) in
      let reach = found.reached w in
      rw (is.ok, w, ← reach.is_kept, ← reach.is_low, ← reach.is_high, ← reach.is_dropped) k
