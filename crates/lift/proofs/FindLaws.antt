-- Looking a base up, block by block, in the flat slices. Assumes nothing.
use mathlib.Core.Path.{◌≡◌, sym, ap, ◌∙◌}
use mathlib.Core.Bool.{Bool, true, false}
use mathlib.Core.List.{List}
use Prim.Native.Nat.{ℕ, ◌+◌, ◌-◌, ◌≤◌, ◌<◌}
use native.Mathlib.Omega.{arith}
use lib.ListN.{length, drop, get_or}
use lib.Dec.{leb, ltb}
use borrow.Author.Tests.{le-leb, lt-ltb, leb-true, ltb-true}
use Rattle.blocks.proofs.RuleLaws.{both}
use Rattle.blocks.proofs.TableLaws.{taken, taken_cons, taken_end}
use Rattle.lift.specs.Accepted.{Wide}
use Rattle.lift.specs.Pairs.{InBlock, in_block, pairs_of, partner_of}
use Rattle.lift.proofs.RunLaws.{either}
use Rattle.lift.proofs.PairLaws.{block_before, block_after, block_in}
use Rattle.std.specs.Prelude.{Some, None}

pub held : (x z p : ℕ) (u : Bool) → u ≡ in_block x z p → u ≡ true → (x ≤ p) × (p < x + z)
held x z p u e k = let h = both (leb x p) (ltb p (x + z)) (sym e ∙ k) in (leb-true _ _ h.0, ltb-true _ _ h.1)

module _ (f : ℕ → ℕ) (t q s : List ℕ) (p n i : ℕ) (h : i < n) (ht : n ≤ length t) (hq : n ≤ length q) (hs : n ≤ length s)
    (u : Bool) (e : u ≡ in_block (get_or t i 0) (get_or s i 0) p) (inv : partner_of p (pairs_of f (drop i (taken n t q s))) ≡ partner_of p (pairs_of f (taken n t q s))) where
  pub found_here : u ≡ true → Some (f (get_or q i 0 + (p - get_or t i 0))) ≡ partner_of p (pairs_of f (taken n t q s))
  unfolding pairs_of
  found_here k =
      let b = held (get_or t i 0) (get_or s i 0) p u e k in
      sym (block_in f p (get_or t i 0) (get_or q i 0) (get_or s i 0) (pairs_of f (drop (i + 1) (taken n t q s))) b.0 b.1)
      ∙ rw (taken_cons n t q s ht hq hs i h) at inv

  pub not_here : u ≡ false → partner_of p (pairs_of f (drop (i + 1) (taken n t q s))) ≡ partner_of p (pairs_of f (taken n t q s))
  unfolding pairs_of
  not_here k =
      let v = rw (taken_cons n t q s ht hq hs i h) at inv in
      either (get_or t i 0) p _
      (λ l. either (get_or t i 0 + get_or s i 0) p _
      (λ m. sym (block_after f p (get_or t i 0) (get_or q i 0) (get_or s i 0) _ m) ∙ v)
      (λ m. absurd (let z : ◌≡◌ {A = Bool} true false = sym (rw (le-leb _ _ l, lt-ltb _ _ m)) ∙ sym e ∙ k in let y : ◌≡◌ {A = ℕ} 0 1 = cc in omega arith)))
      (λ l. sym (block_before f p (get_or t i 0) (get_or q i 0) (get_or s i 0) _ l) ∙ v)

pub not_found : (f : ℕ → ℕ) (t q s : List ℕ) (p n i : ℕ) → n ≤ i → n ≤ length t → n ≤ length q → n ≤ length s
    → partner_of p (pairs_of f (drop i (taken n t q s))) ≡ partner_of p (pairs_of f (taken n t q s)) → None ≡ partner_of p (pairs_of f (taken n t q s))
unfolding pairs_of partner_of
not_found f t q s p n i h ht hq hs inv = rw (taken_end n t q s ht hq hs i h) at inv

pub record Seeking (f : ℕ → ℕ) (t q s : List ℕ) (p n i : ℕ) : Type 0 where
  pub to : i ≤ n
  pub same : partner_of p (pairs_of f (drop i (taken n t q s))) ≡ partner_of p (pairs_of f (taken n t q s))

module _ (f : ℕ → ℕ) (t q s : List ℕ) (p n i : ℕ) (w : Wide n t q s) (sk : Seeking f t q s p n i) where
  pub seek_on : (u : Bool) → i < n → InBlock u (get_or t i 0) (get_or s i 0) p → u ≡ false → Seeking f t q s p n (i + 1)
  seek_on u h e k = record { to = omega arith; same = not_here f t q s p n i h w.targets w.queries w.sizes u e.is sk.same k }

  pub seek_found : (u : Bool) (b : ℕ) → i < n → InBlock u (get_or t i 0) (get_or s i 0) p → u ≡ true → b ≡ f (get_or q i 0 + (p - get_or t i 0)) → Some b ≡ partner_of p (pairs_of f (taken n t q s))
  seek_found u b h e k m = ap Some m ∙ found_here f t q s p n i h w.targets w.queries w.sizes u e.is sk.same k

  pub seek_past : n ≤ i → None ≡ partner_of p (pairs_of f (taken n t q s))
  seek_past h = not_found f t q s p n i h w.targets w.queries w.sizes sk.same

pub told_low : (u : Bool) (x z p : ℕ) → InBlock u x z p → u ≡ true → x ≤ p
told_low u x z p e k = (held x z p u e.is k).0
