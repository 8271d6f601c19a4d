-- Counting a region's bases one by one, and block by block: the overlaps of the blocks are the bases in a pair. Assumes nothing.
use mathlib.Core.Path.{◌≡◌, refl, ap, ap₂, ◌∙◌}
use mathlib.Core.Bool.{Bool, true, false, not}
use mathlib.Core.List.{List, [], ◌∷◌}
use Prim.Native.Nat.{ℕ, zero, suc, ◌+◌, ◌-◌, ◌≤◌, min, max}
use native.Mathlib.Omega.{arith}
use borrow.Author.Tests.{lt-leb, le-leb, lt-ltb, le-ltb}
use Rattle.ledger.specs.declared.Row.{Row}
use Rattle.blocks.specs.Rows.{target_end, query_end}
use Rattle.lift.specs.Pairs.{Pair, pairs_of, partner_of, stands, in_block}
use Rattle.lift.proofs.RunLaws.{either, Run}
use Rattle.lift.proofs.PairLaws.{block_before, block_after, block_in, none_below}
use Rattle.region.specs.Regions.{one, count_of, kept, dropped}
use Rattle.region.specs.Reaches.{covered}

-- a test and its opposite
count_all : (test : ℕ → Bool) (a n : ℕ) → count_of test a n + count_of (λ (i : ℕ). not (test i)) a n ≡ n
unfolding count_of
count_all test a zero = refl
count_all test a (suc n) = go (test a) (count_all test (suc a) n)
  where
    go : (t : Bool) → count_of test (suc a) n + count_of (λ (i : ℕ). not (test i)) (suc a) n ≡ n
        → one t + count_of test (suc a) n + (one (not t) + count_of (λ (i : ℕ). not (test i)) (suc a) n) ≡ suc n
    go true h = omega arith
    go false h = omega arith

-- kept and dropped make up the region, whatever the pairs
pub kept_dropped : (ps : List Pair) (a e : ℕ) → kept ps a e + dropped ps a e ≡ e - a
unfolding kept dropped
kept_dropped ps a e = count_all (λ (i : ℕ). stands i ps) a (e - a)

-- two tests of which at most one holds
count_add : (f g h : ℕ → Bool) → ((i : ℕ) → one (f i) ≡ one (g i) + one (h i)) → (a n : ℕ) → count_of f a n ≡ count_of g a n + count_of h a n
unfolding count_of
count_add f g h e a zero = refl
count_add f g h e a (suc n) = omega (arith, e a, count_add f g h e (suc a) n)

-- the bases in a block
count_block : (t s a n : ℕ) → count_of (in_block t s) a n ≡ min (a + n) (t + s) - max a t
unfolding count_of
count_block t s a zero = omega arith
count_block t s a (suc n) = either t a _
    (λ h. either (t + s) a _
    (λ k. rw (le-leb t a h, le-ltb a (t + s) k) (omega (arith, count_block t s (suc a) n)))
    (λ k. rw (le-leb t a h, lt-ltb a (t + s) k) (omega (arith, count_block t s (suc a) n))))
    (λ h. rw (lt-leb t a h) (omega (arith, count_block t s (suc a) n)))

-- a base stands in a pair of the first block or of a later one
stand_split : (f : ℕ → ℕ) (te qe : ℕ) (x : Row) (xs : List Row) → Run te qe (target_end x) (query_end x) xs → (i : ℕ)
    → one (stands i (pairs_of f (x ∷ xs))) ≡ one (in_block x.target x.size i) + one (stands i (pairs_of f xs))
unfolding pairs_of
stand_split f te qe x xs r i = either x.target i _
    (λ h. either (target_end x) i _
    (λ k. rw (block_after f i x.target x.query x.size (pairs_of f xs) k, le-leb _ _ h, le-ltb _ _ k) (omega arith))
    (λ k. rw (block_in f i x.target x.query x.size (pairs_of f xs) h k, none_below f i te qe _ _ xs r k, le-leb _ _ h, lt-ltb _ _ k)))
    (λ h. rw (block_before f i x.target x.query x.size (pairs_of f xs) h, lt-leb _ _ h) (omega arith))

count_none : (a n : ℕ) → count_of (λ (i : ℕ). false) a n ≡ 0
unfolding count_of
count_none a zero = refl
count_none a (suc n) = omega (arith, count_none (suc a) n)

-- the overlaps of the blocks are the base by base count
pub kept_covered : (f : ℕ → ℕ) (te qe u v : ℕ) (bs : List Row) → Run te qe u v bs → (a e : ℕ) → a ≤ e → kept (pairs_of f bs) a e ≡ covered a e bs
unfolding kept covered
kept_covered f te qe u v [] r a e h = unfold pairs_of partner_of in count_none a (e - a)
kept_covered f te qe u v (x ∷ xs) r a e h =
    let m : a + (e - a) ≡ e = omega arith in
    count_add (λ (i : ℕ). stands i (pairs_of f (x ∷ xs))) (in_block x.target x.size) (λ (i : ℕ). stands i (pairs_of f xs)) (stand_split f te qe x xs r.3) a (e - a)
    ∙ ap₂ ◌+◌ (count_block x.target x.size a (e - a) ∙ ap (λ (k : ℕ). min k (target_end x) - max a x.target) m)
    (kept_covered f te qe (target_end x) (query_end x) xs r.3 a e h)
