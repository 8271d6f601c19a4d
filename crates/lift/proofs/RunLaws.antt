-- Blocks in order on both sides at once, with any gaps between them: what looking up, counting and turning go by. Assumes nothing.
use mathlib.Core.Path.{◌≡◌, refl}
use mathlib.Core.Bool.{Bool, true, false, ◌&&◌, false≢true}
use mathlib.Core.List.{List, [], ◌∷◌, map}
use Prim.Native.Nat.{ℕ, zero, suc, ◌+◌, ◌≤◌, ◌<◌}
use native.Mathlib.Omega.{arith}
use lib.ListN.{length, get_or}
use lib.Dec.{leb, eqb}
use borrow.Author.Tests.{le-leb, eq-eqb, leb-true, leb-false, eqb-true}
use Rattle.ledger.specs.declared.Row.{Row}
use Rattle.ledger.specs.Limits.{largest_position}
use Rattle.blocks.specs.Blocks.{order_from, blocks_fill, all_between}
use Rattle.blocks.specs.Rows.{targets_of, queries_of, sizes_of, target_end, query_end, no_row}
use Rattle.blocks.proofs.RuleLaws.{both}

-- two numbers, either way round
pub either : (a b : ℕ) (P : Type 0) → (a ≤ b → P) → (b < a → P) → P
either a b P f g = go (leb a b) refl
  where
    go : (t : Bool) → leb a b ≡ t → P
    go true e = f (leb-true a b e)
    go false e = g (leb-false a b e)

pub and_i : {a b : Bool} → a ≡ true → b ≡ true → a && b ≡ true
and_i p q = rw (p, q)

-- blocks in order from (a, b) to (te, qe)
abbrev pub Run : ℕ → ℕ → ℕ → ℕ → List Row → Type 0
Run te qe a b [] = (a ≤ te) × (b ≤ qe)
Run te qe a b (x ∷ xs) = (1 ≤ x.size) × (a ≤ x.target) × (b ≤ x.query) × Run te qe (target_end x) (query_end x) xs

pub run_below : (te qe a b : ℕ) (xs : List Row) → Run te qe a b xs → (a ≤ te) × (b ≤ qe)
run_below te qe a b [] r = r
run_below te qe a b (x ∷ xs) r = let h = run_below te qe (target_end x) (query_end x) xs r.3 in (omega arith, omega arith)

-- each block ends within
pub run_at : (te qe a b : ℕ) (xs : List Row) → Run te qe a b xs → (i : ℕ) → i < length xs → (target_end (get_or xs i no_row) ≤ te) × (query_end (get_or xs i no_row) ≤ qe)
run_at te qe a b [] r i h = absurd (omega arith)
run_at te qe a b (x ∷ xs) r zero h = run_below te qe _ _ xs r.3
run_at te qe a b (x ∷ xs) r (suc i) h = run_at te qe (target_end x) (query_end x) xs r.3 i (omega arith)

-- the two sides of a row
abbrev pub on_target : Row → ℕ
on_target b = b.target

abbrev pub on_query : Row → ℕ
on_query b = b.query

-- where the first block starts and the last one ends on a side; the number given where there is none
unfoldable pub first_on : (Row → ℕ) → ℕ → List Row → ℕ
first_on g d [] = d
first_on g d (b ∷ bs) = g b

unfoldable pub last_on : (Row → ℕ) → ℕ → List Row → ℕ
last_on g d [] = d
last_on g d (b ∷ bs) = last_on g (g b + b.size) bs

-- ---- the rules of blocks on the flat lists of rows, and a run
order_run : (te qe most : ℕ) (x : Row) (bs : List Row) → order_from x.target x.size te (targets_of bs) (sizes_of bs) ≡ true
    → order_from x.query x.size qe (queries_of bs) (sizes_of bs) ≡ true → all_between 1 most (sizes_of bs) ≡ true → Run te qe (target_end x) (query_end x) bs
unfolding order_from all_between
order_run te qe most x [] e f g = let u = eqb-true (target_end x) te e in let v = eqb-true (query_end x) qe f in (omega arith, omega arith)
order_run te qe most x (y ∷ ys) e f g =
    let a = both (leb (target_end x) y.target) _ e in
    let b = both (leb (query_end x) y.query) _ f in
    let c = both (leb 1 y.size && leb y.size most) _ g in
    (leb-true 1 y.size (both (leb 1 y.size) (leb y.size most) c.0).0, leb-true _ _ a.0, leb-true _ _ b.0, order_run te qe most y ys a.1 b.1 c.1)

order_last : (g : Row → ℕ) (s z last : ℕ) (bs : List Row) → order_from s z last (map g bs) (sizes_of bs) ≡ true → last_on g (s + z) bs ≡ last
unfolding order_from last_on
order_last g s z last [] e = eqb-true (s + z) last e
order_last g s z last (y ∷ ys) e = order_last g (g y) y.size last ys (both (leb (s + z) (g y)) _ e).1

-- what the rules of blocks say of rows
pub record Placed (te qe ts qs : ℕ) (bs : List Row) : Type 0 where
  pub t_first : first_on on_target ts bs ≡ ts
  pub q_first : first_on on_query qs bs ≡ qs
  pub t_last : last_on on_target ts bs ≡ te
  pub q_last : last_on on_query qs bs ≡ qe
  pub run : Run te qe ts qs bs

pub placed_of : (te qe ts qs most : ℕ) (bs : List Row) → blocks_fill ts te (targets_of bs) (sizes_of bs) ≡ true → blocks_fill qs qe (queries_of bs) (sizes_of bs) ≡ true
    → all_between 1 most (sizes_of bs) ≡ true → Placed te qe ts qs bs
unfolding blocks_fill all_between first_on last_on
placed_of te qe ts qs most [] e f g = absurd (false≢true e)
placed_of te qe ts qs most (x ∷ xs) e f g =
    let a = both (eqb x.target ts) _ e in
    let b = both (eqb x.query qs) _ f in
    let c = both (leb 1 x.size && leb x.size most) _ g in
    let t = eqb-true x.target ts a.0 in
    let q = eqb-true x.query qs b.0 in
    record {
      t_first = t;
      q_first = q;
      t_last = order_last on_target x.target x.size te xs a.1;
      q_last = order_last on_query x.query x.size qe xs b.1;
      run = (leb-true 1 x.size (both (leb 1 x.size) (leb x.size most) c.0).0, omega arith, omega arith, order_run te qe most x xs a.1 b.1 c.1);
    }

-- and back: rows in order whose last ends at the spans' ends
run_order_t : (te qe b : ℕ) (x : Row) (bs : List Row) → Run te qe (target_end x) b bs → last_on on_target (target_end x) bs ≡ te → order_from x.target x.size te (targets_of bs) (sizes_of bs) ≡ true
unfolding order_from last_on
run_order_t te qe b x [] r l = eq-eqb _ _ l
run_order_t te qe b x (y ∷ ys) r l = and_i (le-leb _ _ r.1) (run_order_t te qe (query_end y) y ys r.3 l)

run_order_q : (te qe a : ℕ) (x : Row) (bs : List Row) → Run te qe a (query_end x) bs → last_on on_query (query_end x) bs ≡ qe → order_from x.query x.size qe (queries_of bs) (sizes_of bs) ≡ true
unfolding order_from last_on
run_order_q te qe a x [] r l = eq-eqb _ _ l
run_order_q te qe a x (y ∷ ys) r l = and_i (le-leb _ _ r.2) (run_order_q te qe (target_end y) y ys r.3 l)

run_sizes : (te qe a b : ℕ) (bs : List Row) → Run te qe a b bs → te ≤ largest_position → all_between 1 largest_position (sizes_of bs) ≡ true
unfolding all_between
run_sizes te qe a b [] r h = refl
run_sizes te qe a b (x ∷ xs) r h =
    let l = run_below te qe (target_end x) (query_end x) xs r.3 in
    and_i (and_i (le-leb 1 x.size r.0) (le-leb x.size largest_position (omega arith))) (run_sizes te qe (target_end x) (query_end x) xs r.3 h)

run_starts : (g : Row → ℕ) (bs : List Row) → ((i : ℕ) → i < length bs → g (get_or bs i no_row) ≤ largest_position) → all_between 0 largest_position (map g bs) ≡ true
unfolding all_between
run_starts g [] f = refl
run_starts g (x ∷ xs) f = and_i (and_i (le-leb 0 (g x) (omega arith)) (le-leb (g x) largest_position (f 0 (omega arith)))) (run_starts g xs (λ i h. f (suc i) (omega arith)))

-- the tests on the flat lists of placed rows
pub record Tested (te qe ts qs : ℕ) (bs : List Row) : Type 0 where
  pub targets : all_between 0 largest_position (targets_of bs) ≡ true
  pub queries : all_between 0 largest_position (queries_of bs) ≡ true
  pub sizes : all_between 1 largest_position (sizes_of bs) ≡ true
  pub t_fills : blocks_fill ts te (targets_of bs) (sizes_of bs) ≡ true
  pub q_fills : blocks_fill qs qe (queries_of bs) (sizes_of bs) ≡ true

pub placed_is : (te qe ts qs : ℕ) (bs : List Row) → 1 ≤ length bs → te ≤ largest_position → qe ≤ largest_position → Placed te qe ts qs bs → Tested te qe ts qs bs
unfolding blocks_fill first_on last_on
placed_is te qe ts qs [] n h k p = absurd (omega arith)
placed_is te qe ts qs (x ∷ xs) n h k p = record {
  targets = run_starts on_target (x ∷ xs) (λ i l. omega (arith, (run_at te qe ts qs (x ∷ xs) p.run i l).0));
  queries = run_starts on_query (x ∷ xs) (λ i l. omega (arith, (run_at te qe ts qs (x ∷ xs) p.run i l).1));
  sizes = run_sizes te qe ts qs (x ∷ xs) p.run h;
  t_fills = and_i (eq-eqb x.target ts p.t_first) (run_order_t te qe (query_end x) x xs p.run.3 p.t_last);
  q_fills = and_i (eq-eqb x.query qs p.q_first) (run_order_q te qe (target_end x) x xs p.run.3 p.q_last);
}
