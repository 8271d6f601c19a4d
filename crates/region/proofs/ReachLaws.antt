-- A region block by block, as the code goes, against its pairs. Assumes nothing.
use mathlib.Core.Path.{◌≡◌, refl, sym, ap, ap₂, ◌∙◌}
use mathlib.Core.Bool.{Bool, true, false, ◌&&◌}
use mathlib.Core.List.{List, [], ◌∷◌, ◌++◌}
use Prim.Native.Nat.{ℕ, zero, suc, ◌+◌, ◌-◌, ◌≤◌, ◌<◌, max}
use native.Mathlib.Omega.{arith}
use lib.Dec.{leb, ltb}
use borrow.Author.Tests.{lt-leb, le-leb, lt-ltb, le-ltb}
use Rattle.ledger.specs.declared.Refusal.{Refusal}
use Rattle.ledger.specs.Refusals.{without_text}
use Rattle.region.specs.declared.Tally.{Tally}
use Rattle.region.specs.Steps.{no_room}
use Rattle.ledger.specs.declared.Reason.TheVariants.{NoRoom, NoPair}
use Rattle.lift.specs.Pairs.{Pair, block_pairs}
use Rattle.lift.proofs.RunLaws.{either}
use Rattle.region.specs.declared.Reach.{Reach}
use Rattle.region.specs.Regions.{cons_if, partners_in, not_lifted}
use Rattle.region.specs.Reaches.{lap, answer_of}
use Rattle.std.specs.Prelude.{Ok, Err, Result}
use Rattle.region.specs.declared.Region.{Region}

-- ---- the answer
pub room_none : (t : Tally) (x : Refusal) → x ≡ without_text NoRoom → record { tally = t; check = Err x } ≡ no_room t
room_none t x e = rw e

pub answer_none : (r : Reach) (len : ℕ) (g : Result Region Refusal) → r.kept ≡ 0 → g ≡ not_lifted NoPair → g ≡ answer_of r len
answer_none r len g h e = rw (lt-leb 1 r.kept (omega arith)) e

pub answer_some : (r : Reach) (len : ℕ) → (r.kept ≡ 0 → ⊥) → Ok (record { kept = r.kept; dropped = len - r.kept; start = r.low; end = r.high }) ≡ answer_of r len
answer_some r len h = let l : 1 ≤ r.kept = omega arith in rw (le-leb 1 r.kept l)

-- ---- a block's partners in a region
abbrev pub bases_from : (ℕ → ℕ) → ℕ → ℕ → List ℕ
bases_from f q zero = []
bases_from f q (suc n) = f q ∷ bases_from f (suc q) n

lap_in : (a e t n : ℕ) → a ≤ t → t < e → lap a e t (suc n) ≡ suc (lap a e (suc t) n)
lap_in a e t n h k =
    let u : max a t ≡ t = omega arith in let v : max a (suc t) ≡ suc t = omega arith in rw (u, v) (omega arith)

lap_low : (a e t n : ℕ) → t < a → lap a e (suc t) n ≡ lap a e t (suc n)
lap_low a e t n h =
    let u : max a t ≡ a = omega arith in let v : max a (suc t) ≡ a = omega arith in let w : suc t + n ≡ t + suc n = omega arith in rw (u, v, w)

base_low : (a t q : ℕ) → t < a → suc q + (max a (suc t) - suc t) ≡ q + (max a t - t)
base_low a t q h =
    let u : max a t ≡ a = omega arith in let v : max a (suc t) ≡ a = omega arith in rw (u, v) (omega arith)

lap_past : (a e t n : ℕ) → e ≤ t → lap a e t n ≡ 0
lap_past a e t n h = omega arith

-- what a region cuts out of a block
pub clip : (f : ℕ → ℕ) (a e t q n : ℕ) → partners_in a e (block_pairs f t q n) ≡ bases_from f (q + (max a t - t)) (lap a e t n)
unfolding partners_in block_pairs
clip f a e t q zero = let z : lap a e t 0 ≡ 0 = omega arith in ap (bases_from f (q + (max a t - t))) (sym z)
clip f a e t q (suc n) = either a t _
    (λ h. either e t _
    (λ k. let z = lap_past a e (suc t) n (omega arith) in let y = lap_past a e t (suc n) k in
    rw (le-leb a t h, le-ltb t e k) (clip f a e (suc t) (suc q) n ∙ ap (bases_from f (suc q + (max a (suc t) - suc t))) z ∙ ap (bases_from f (q + (max a t - t))) (sym y)))
    (λ k. let u : q + (max a t - t) ≡ q = omega arith in let v : suc q + (max a (suc t) - suc t) ≡ suc q = omega arith in
    let y = lap_in a e t n h k in
    rw (le-leb a t h, lt-ltb t e k) (ap (λ (l : List ℕ). f q ∷ l) (clip f a e (suc t) (suc q) n ∙ ap (λ (m : ℕ). bases_from f m (lap a e (suc t) n)) v)
    ∙ sym (ap₂ (bases_from f) u y))))
    (λ h. rw (lt-leb a t h) (clip f a e (suc t) (suc q) n ∙ ap₂ (bases_from f) (base_low a t q h) (lap_low a e t n h)))

pub partners_append : (a e : ℕ) (xs ys : List Pair) → partners_in a e (xs ++ ys) ≡ partners_in a e xs ++ partners_in a e ys
unfolding partners_in
partners_append a e [] ys = refl
partners_append a e (x ∷ xs) ys = go (leb a x.target && ltb x.target e) (partners_append a e xs ys)
  where
    go : (b : Bool) → partners_in a e (xs ++ ys) ≡ partners_in a e xs ++ partners_in a e ys
        → cons_if b x.query (partners_in a e (xs ++ ys)) ≡ cons_if b x.query (partners_in a e xs) ++ partners_in a e ys
    go true h = ap (λ (l : List ℕ). x.query ∷ l) h
    go false h = h
