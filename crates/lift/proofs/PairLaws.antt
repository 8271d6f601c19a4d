-- Looking up a base in the pairs of blocks: before a block, past it, in it; and what standing in the list means. Assumes nothing.
use mathlib.Core.Path.{◌≡◌, refl, sym, ap, ap₂, ◌∙◌}
use mathlib.Core.Logic.{⊎_elim}
use mathlib.Core.Bool.{Bool, true, false}
use mathlib.Core.List.Memᴰ
use mathlib.Core.List.{List, [], ◌∷◌, ◌++◌, Memᴰ}
use Prim.Native.Nat.{ℕ, zero, suc, ◌+◌, ◌-◌, ◌≤◌, ◌<◌}
use native.Mathlib.Omega.{arith}
use lib.Dec.{eqb}
use borrow.Author.Tests.{eq-eqb, ne_eqb, eqb-true}
use Rattle.ledger.specs.declared.Row.{Row}
use Rattle.blocks.specs.Rows.{target_end, query_end}
use Rattle.lift.specs.Pairs.{Pair, pair, block_pairs, pairs_of, or_else, partner_of}
use Rattle.lift.proofs.RunLaws.{either, Run}
use Rattle.std.specs.Prelude.{Some, None}

-- looking up: before a block, past it, in it
module _ (f : ℕ → ℕ) (p : ℕ) where
  pub block_before : (t q n : ℕ) (rest : List Pair) → p < t → partner_of p (block_pairs f t q n ++ rest) ≡ partner_of p rest
  unfolding block_pairs partner_of
  block_before t q zero rest h = refl
  block_before t q (suc n) rest h = rw (ne_eqb t p (λ e. omega arith)) (block_before (suc t) (suc q) n rest (omega arith))

  pub block_after : (t q n : ℕ) (rest : List Pair) → t + n ≤ p → partner_of p (block_pairs f t q n ++ rest) ≡ partner_of p rest
  unfolding block_pairs partner_of
  block_after t q zero rest h = refl
  block_after t q (suc n) rest h = rw (ne_eqb t p (λ e. omega arith)) (block_after (suc t) (suc q) n rest (omega arith))

  pub block_in : (t q n : ℕ) (rest : List Pair) → t ≤ p → p < t + n → partner_of p (block_pairs f t q n ++ rest) ≡ Some (f (q + (p - t)))
  unfolding block_pairs partner_of
  block_in t q zero rest h k = absurd (omega arith)
  block_in t q (suc n) rest h k =
      let m : q ≡ q + 0 = omega arith in
      either p t _
      (λ l. let e : t ≡ p = omega arith in let z : q ≡ q + (p - t) = omega arith in rw (eq-eqb t p e) (ap (λ (k : ℕ). Some (f k)) z))
      (λ l. let z : suc q + (p - suc t) ≡ q + (p - t) = omega arith in
      rw (ne_eqb t p (λ e. omega arith)) (block_in (suc t) (suc q) n rest l (omega arith) ∙ ap (λ (k : ℕ). Some (f k)) z))

-- below the first block there is no pair
pub none_below : (f : ℕ → ℕ) (p te qe a b : ℕ) (bs : List Row) → Run te qe a b bs → p < a → partner_of p (pairs_of f bs) ≡ None
unfolding pairs_of partner_of
none_below f p te qe a b [] r h = refl
none_below f p te qe a b (x ∷ xs) r h =
    block_before f p x.target x.query x.size (pairs_of f xs) (omega arith)
    ∙ none_below f p te qe (target_end x) (query_end x) xs r.3 (omega arith)

-- a pair of a block
pub in_block_lem : (f : ℕ → ℕ) (t q n : ℕ) (x : Pair) → Memᴰ x (block_pairs f t q n) → (t ≤ x.target) × (x.target < t + n) × (x.query ≡ f (q + (x.target - t)))
unfolding block_pairs
in_block_lem f t q zero x m = absurd (Memᴰ.not-nil m)
in_block_lem f t q (suc n) x m = ⊎_elim
    (λ e. let d : x.target ≡ t = ap (λ (y : Pair). y.target) e in
    let z : q ≡ q + (x.target - t) = omega arith in
    (omega arith, omega arith, ap (λ (y : Pair). y.query) e ∙ ap f z))
    (λ k. let h = in_block_lem f (suc t) (suc q) n x k in
    let z : suc q + (x.target - suc t) ≡ q + (x.target - t) = omega (arith, h.0) in
    (omega (arith, h.0), omega (arith, h.1), h.2 ∙ ap f z))
    (Memᴰ.cases_cons m)

pub mem_above : (f : ℕ → ℕ) (te qe a b : ℕ) (bs : List Row) (x : Pair) → Run te qe a b bs → Memᴰ x (pairs_of f bs) → a ≤ x.target
unfolding pairs_of
mem_above f te qe a b [] x r m = absurd (Memᴰ.not-nil m)
mem_above f te qe a b (y ∷ ys) x r m = ⊎_elim
    (λ k. let h = in_block_lem f y.target y.query y.size x k in omega (arith, h.0))
    (λ k. omega (arith, mem_above f te qe (target_end y) (query_end y) ys x r.3 k))
    (Memᴰ.append_cases (block_pairs f y.target y.query y.size) m)

-- a pair of the list is what looking up its target base finds
pub mem_found : (f : ℕ → ℕ) (te qe a b : ℕ) (bs : List Row) (x : Pair) → Run te qe a b bs → Memᴰ x (pairs_of f bs) → partner_of x.target (pairs_of f bs) ≡ Some x.query
unfolding pairs_of
mem_found f te qe a b [] x r m = absurd (Memᴰ.not-nil m)
mem_found f te qe a b (y ∷ ys) x r m = ⊎_elim
    (λ k. let h = in_block_lem f y.target y.query y.size x k in
    block_in f x.target y.target y.query y.size (pairs_of f ys) h.0 h.1 ∙ ap Some (sym h.2))
    (λ k. block_after f x.target y.target y.query y.size (pairs_of f ys) (mem_above f te qe (target_end y) (query_end y) ys x r.3 k)
    ∙ mem_found f te qe (target_end y) (query_end y) ys x r.3 k)
    (Memᴰ.append_cases (block_pairs f y.target y.query y.size) m)

-- and the other way, for any list
pub found_mem : (p q : ℕ) (ps : List Pair) → partner_of p ps ≡ Some q → Memᴰ (pair p q) ps
unfolding partner_of
found_mem p q [] e = absurd (let z : ◌≡◌ {A = ℕ} 0 1 = cc in omega arith)
found_mem p q (x ∷ xs) e = go (eqb x.target p) refl (found_mem p q xs)
  where
    go : (t : Bool) → eqb x.target p ≡ t → (partner_of p xs ≡ Some q → Memᴰ (pair p q) xs) → Memᴰ (pair p q) (x ∷ xs)
    go true k rec =
        let d : or_else true x.query (partner_of p xs) ≡ Some q = rw k at e in
        let u : x.query ≡ q = cc in let v : x.target ≡ p = eqb-true _ _ k in
        Memᴰ.head (sym (ap₂ pair v u))
    go false k rec = Memᴰ.tail (rec (rw k at e))
