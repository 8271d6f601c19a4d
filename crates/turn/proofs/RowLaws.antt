-- The turned rows: their pairs, their order, their first and last, by their places; and turned again. Assumes nothing.
use mathlib.Core.Path.{◌≡◌, refl, sym, ap, ap₂, ◌∙◌}
use mathlib.Core.List.{List, [], ◌∷◌, ◌++◌, map, reverse, append_assoc, append-nil, reverse-cons, reverse-append, reverse-reverse}
use Prim.Native.Nat.{ℕ, zero, suc, ◌+◌, ◌-◌, ◌≤◌, ◌<◌}
use native.Mathlib.Omega.{arith}
use lib.ListN.{length, get_or, length-map, length-reverse, get_or-append}
use lib.Seq.{get_or-append-add}
use Rattle.blocks.specs.Strands.{strand_start}
use Rattle.ledger.specs.declared.Strand.{Strand}
use Rattle.ledger.specs.declared.Strand.TheVariants.{Plus, Minus, Dot}
use Rattle.ledger.specs.declared.Row.{Row}
use Rattle.blocks.specs.Rows.{target_end, query_end, no_row}
use Rattle.lift.specs.Pairs.{Pair, pair, block_pairs, pairs_of}
use Rattle.lift.proofs.RunLaws.{either, Run, run_below, on_target, on_query, first_on, last_on, Placed}
use Rattle.turn.specs.Turns.{swap_pair, swap_row, turn_row, turned_rows_on, source_of}

map_append : {A B : Type 0} (f : A → B) (xs ys : List A) → map f (xs ++ ys) ≡ map f xs ++ map f ys
map_append f [] ys = refl
map_append {A} {B} f (x ∷ xs) ys = ap (λ (l : List B). f x ∷ l) (map_append f xs ys)

map_reverse : {A B : Type 0} (f : A → B) (xs : List A) → map f (reverse xs) ≡ reverse (map f xs)
map_reverse f [] = refl
map_reverse {A} {B} f (x ∷ xs) =
    ap (map f) (reverse-cons x xs) ∙ map_append f (reverse xs) (x ∷ []) ∙ ap (λ (l : List B). l ++ (f x ∷ [])) (map_reverse f xs) ∙ sym (reverse-cons (f x) (map f xs))

pairs_append : (f : ℕ → ℕ) (xs ys : List Row) → pairs_of f (xs ++ ys) ≡ pairs_of f xs ++ pairs_of f ys
unfolding pairs_of
pairs_append f [] ys = refl
pairs_append f (x ∷ xs) ys = rw (pairs_append f xs ys) (sym (append_assoc (block_pairs f x.target x.query x.size) (pairs_of f xs) (pairs_of f ys)))

-- ---- the pairs, with `+`: row by row
abbrev same : ℕ → ℕ
same s = s

block_swapped : (t q n : ℕ) → block_pairs same q t n ≡ map swap_pair (block_pairs same t q n)
unfolding block_pairs
block_swapped t q zero = refl
block_swapped t q (suc n) = ap (λ (l : List Pair). pair q t ∷ l) (block_swapped (suc t) (suc q) n)

pub pairs_swapped : (bs : List Row) → pairs_of same (map swap_row bs) ≡ map swap_pair (pairs_of same bs)
unfolding pairs_of
pairs_swapped [] = refl
pairs_swapped (b ∷ bs) =
    ap₂ ◌++◌ (block_swapped b.target b.query b.size) (pairs_swapped bs)
    ∙ sym (map_append swap_pair (block_pairs same b.target b.query b.size) (pairs_of same bs))

-- ---- with `-`: from the other end
abbrev back : ℕ → ℕ → ℕ
back size s = size - (s + 1)

block_last : (f : ℕ → ℕ) (t q n : ℕ) → block_pairs f t q (suc n) ≡ block_pairs f t q n ++ (pair (t + n) (f (q + n)) ∷ [])
unfolding block_pairs
block_last f t q zero = let u : t ≡ t + 0 = omega arith in let v : q ≡ q + 0 = omega arith in ap₂ (λ (x y : ℕ). pair x (f y) ∷ []) u v
block_last f t q (suc n) =
    let u : suc t + n ≡ t + suc n = omega arith in let v : suc q + n ≡ q + suc n = omega arith in
    ap (λ (l : List Pair). pair t (f q) ∷ l) (block_last f (suc t) (suc q) n ∙ ap₂ (λ (x y : ℕ). block_pairs f (suc t) (suc q) n ++ (pair x (f y) ∷ [])) u v)

same_end : (m q n : ℕ) → m - (suc q + n) ≡ m - (q + suc n)
same_end m q n = omega arith

last_base : (m q n : ℕ) → q + suc n ≤ m → m - (q + suc n) + n ≡ m - (q + 1)
last_base m q n h = omega arith

back_again : (m t n : ℕ) → t + suc n ≤ m → m - (m - (t + suc n) + n + 1) ≡ t
back_again m t n h = omega arith

block_turned : (ts qs t q n : ℕ) → t + n ≤ ts → q + n ≤ qs → block_pairs (back ts) (qs - (q + n)) (ts - (t + n)) n ≡ reverse (map swap_pair (block_pairs (back qs) t q n))
unfolding block_pairs
block_turned ts qs t q zero h k = refl
block_turned ts qs t q (suc n) h k =
    let i : block_pairs (back ts) (qs - (q + suc n)) (ts - (t + suc n)) n ≡ reverse (map swap_pair (block_pairs (back qs) (suc t) (suc q) n))
    = ap₂ (λ (a b : ℕ). block_pairs (back ts) a b n) (sym (same_end qs q n)) (sym (same_end ts t n)) ∙ block_turned ts qs (suc t) (suc q) n (omega arith) (omega arith) in
    block_last (back ts) (qs - (q + suc n)) (ts - (t + suc n)) n
    ∙ ap₂ (λ (l : List Pair) (z : Pair). l ++ (z ∷ [])) i (ap₂ pair (last_base qs q n k) (back_again ts t n h))
    ∙ sym (reverse-cons (pair (qs - (q + 1)) t) (map swap_pair (block_pairs (back qs) (suc t) (suc q) n)))

module _ (ts qs te qe : ℕ) (h : te ≤ ts) (k : qe ≤ qs) where
  pub pairs_turned : (a b : ℕ) (bs : List Row) → Run te qe a b bs → pairs_of (back ts) (reverse (map (turn_row ts qs) bs)) ≡ reverse (map swap_pair (pairs_of (back qs) bs))
  unfolding pairs_of
  pairs_turned a b [] r = refl
  pairs_turned a b (x ∷ xs) r =
      let l = run_below te qe (target_end x) (query_end x) xs r.3 in
      let i = pairs_turned (target_end x) (query_end x) xs r.3 in
      let j = block_turned ts qs x.target x.query x.size (omega arith) (omega arith) in
      ap (pairs_of (back ts)) (reverse-cons (turn_row ts qs x) (map (turn_row ts qs) xs))
      ∙ pairs_append (back ts) (reverse (map (turn_row ts qs) xs)) (turn_row ts qs x ∷ [])
      ∙ ap₂ ◌++◌ i (append-nil (block_pairs (back ts) (qs - query_end x) (ts - target_end x) x.size) ∙ j)
      ∙ sym (reverse-append (map swap_pair (block_pairs (back qs) x.target x.query x.size)) (map swap_pair (pairs_of (back qs) xs)))
      ∙ ap reverse (sym (map_append swap_pair (block_pairs (back qs) x.target x.query x.size) (pairs_of (back qs) xs)))

-- ---- the order
run_swapped : (te qe a b : ℕ) (bs : List Row) → Run te qe a b bs → Run qe te b a (map swap_row bs)
run_swapped te qe a b [] r = (r.1, r.0)
run_swapped te qe a b (x ∷ xs) r = (r.0, r.2, r.1, run_swapped te qe (target_end x) (query_end x) xs r.3)

run_wider : (te qe a b a' b' : ℕ) (bs : List Row) → Run te qe a b bs → a' ≤ a → b' ≤ b → Run te qe a' b' bs
run_wider te qe a b a' b' [] r h k = (omega (arith, r.0), omega (arith, r.1))
run_wider te qe a b a' b' (x ∷ xs) r h k = (r.0, omega (arith, r.1), omega (arith, r.2), r.3)

run_append : (te qe m n a b : ℕ) (xs ys : List Row) → Run m n a b xs → Run te qe m n ys → Run te qe a b (xs ++ ys)
run_append te qe m n a b [] ys r s = run_wider te qe m n a b ys s r.0 r.1
run_append te qe m n a b (x ∷ xs) ys r s = (r.0, r.1, r.2, run_append te qe m n (target_end x) (query_end x) xs ys r.3 s)

module _ (ts qs te qe : ℕ) (h : te ≤ ts) (k : qe ≤ qs) where
  run_turned : (a b : ℕ) (bs : List Row) → Run te qe a b bs → Run (qs - b) (ts - a) (qs - qe) (ts - te) (reverse (map (turn_row ts qs) bs))
  run_turned a b [] r = (omega (arith, r.1), omega (arith, r.0))
  run_turned a b (x ∷ xs) r =
      let l = run_below te qe (target_end x) (query_end x) xs r.3 in
      let i = run_turned (target_end x) (query_end x) xs r.3 in
      rw (reverse-cons (turn_row ts qs x) (map (turn_row ts qs) xs))
      (run_append (qs - b) (ts - a) (qs - query_end x) (ts - target_end x) (qs - qe) (ts - te) (reverse (map (turn_row ts qs) xs)) (turn_row ts qs x ∷ []) i
      (r.0, omega arith, omega arith, (omega (arith, r.2), omega (arith, r.1))))

-- ---- first and last, on a side g that comes from the side h
first_append : (g : Row → ℕ) (d : ℕ) (xs ys : List Row) → first_on g d (xs ++ ys) ≡ first_on g (first_on g d ys) xs
unfolding first_on
first_append g d [] ys = refl
first_append g d (x ∷ xs) ys = refl

last_append : (g : Row → ℕ) (d : ℕ) (xs ys : List Row) → last_on g d (xs ++ ys) ≡ last_on g (last_on g d xs) ys
unfolding last_on
last_append g d [] ys = refl
last_append g d (x ∷ xs) ys = last_append g (g x + x.size) xs ys

module _ (g h : Row → ℕ) (e : (b : Row) → g (swap_row b) ≡ h b) where
  first_swapped : (d : ℕ) (bs : List Row) → first_on g d (map swap_row bs) ≡ first_on h d bs
  unfolding first_on
  first_swapped d [] = refl
  first_swapped d (x ∷ xs) = e x

  last_swapped : (d : ℕ) (bs : List Row) → last_on g d (map swap_row bs) ≡ last_on h d bs
  unfolding last_on
  last_swapped d [] = refl
  last_swapped d (x ∷ xs) = ap (λ (m : ℕ). last_on g (m + x.size) (map swap_row xs)) (e x) ∙ last_swapped (h x + x.size) xs

-- the first of the turned rows is the last of the rows, and the other way round
module _ (ts qs m : ℕ) (g h : Row → ℕ) (e : (b : Row) → g (turn_row ts qs b) ≡ m - (h b + b.size)) where
  first_turned : (d : ℕ) (bs : List Row) → first_on g (m - d) (reverse (map (turn_row ts qs) bs)) ≡ m - last_on h d bs
  unfolding first_on last_on
  first_turned d [] = refl
  first_turned d (x ∷ xs) = rw (reverse-cons (turn_row ts qs x) (map (turn_row ts qs) xs))
      (first_append g (m - d) (reverse (map (turn_row ts qs) xs)) (turn_row ts qs x ∷ [])
      ∙ ap (λ (z : ℕ). first_on g z (reverse (map (turn_row ts qs) xs))) (e x)
      ∙ first_turned (h x + x.size) xs)

  last_turned : (d d' : ℕ) (x : Row) (xs : List Row) → h x + x.size ≤ m → last_on g d (reverse (map (turn_row ts qs) (x ∷ xs))) ≡ m - first_on h d' (x ∷ xs)
  unfolding first_on last_on
  last_turned d d' x xs l = rw (reverse-cons (turn_row ts qs x) (map (turn_row ts qs) xs))
      (last_append g d (reverse (map (turn_row ts qs) xs)) (turn_row ts qs x ∷ []) ∙ omega (arith, e x))

-- where there are rows, the number given does not count
any_last : (g : Row → ℕ) (d d' : ℕ) (x : Row) (xs : List Row) → last_on g d (x ∷ xs) ≡ last_on g d' (x ∷ xs)
unfolding last_on
any_last g d d' x xs = refl

-- ROWS THAT FILL BOTH SPANS fill the turned ones once turned
pub placed_swapped : (te qe ts qs : ℕ) (bs : List Row) → Placed te qe ts qs bs → Placed qe te qs ts (map swap_row bs)
placed_swapped te qe ts qs bs p = record {
  t_first = first_swapped on_target on_query (λ b. refl) qs bs ∙ p.q_first;
  q_first = first_swapped on_query on_target (λ b. refl) ts bs ∙ p.t_first;
  t_last = last_swapped on_target on_query (λ b. refl) qs bs ∙ p.q_last;
  q_last = last_swapped on_query on_target (λ b. refl) ts bs ∙ p.t_last;
  run = run_swapped te qe ts qs bs p.run;
}

pub placed_turned : (tm qm te qe ts qs : ℕ) (bs : List Row) → te ≤ tm → qe ≤ qm → 1 ≤ length bs → Placed te qe ts qs bs
    → Placed (qm - qs) (tm - ts) (qm - qe) (tm - te) (reverse (map (turn_row tm qm) bs))
placed_turned tm qm te qe ts qs [] h k n p = absurd (omega arith)
placed_turned tm qm te qe ts qs (x ∷ xs) h k n p =
    let l = run_below te qe (target_end x) (query_end x) xs p.run.3 in
    record {
      t_first = first_turned tm qm qm on_target on_query (λ b. refl) qe (x ∷ xs) ∙ ap (λ (m : ℕ). qm - m) (any_last on_query qe qs x xs ∙ p.q_last);
      q_first = first_turned tm qm tm on_query on_target (λ b. refl) te (x ∷ xs) ∙ ap (λ (m : ℕ). tm - m) (any_last on_target te ts x xs ∙ p.t_last);
      t_last = last_turned tm qm qm on_target on_query (λ b. refl) (qm - qe) qs x xs (omega arith) ∙ ap (λ (m : ℕ). qm - m) p.q_first;
      q_last = last_turned tm qm tm on_query on_target (λ b. refl) (tm - te) ts x xs (omega arith) ∙ ap (λ (m : ℕ). tm - m) p.t_first;
      run = run_turned tm qm te qe h k ts qs (x ∷ xs) p.run;
    }

-- ---- how many, and by their places
pub turned_length : (k : Strand) (ts qs : ℕ) (bs : List Row) → length (turned_rows_on k ts qs bs) ≡ length bs
turned_length Plus ts qs bs = length-map bs swap_row
turned_length Minus ts qs bs = length-reverse (map (turn_row ts qs) bs) ∙ length-map bs (turn_row ts qs)
turned_length Dot ts qs bs = length-map bs swap_row

at_map : (f : Row → Row) (l : List Row) (i : ℕ) → i < length l → get_or (map f l) i no_row ≡ f (get_or l i no_row)
at_map f [] i h = absurd (omega arith)
at_map f (x ∷ xs) zero h = refl
at_map f (x ∷ xs) (suc i) h = at_map f xs i (omega arith)

at_reverse : (l : List Row) (i : ℕ) → i < length l → get_or (reverse l) i no_row ≡ get_or l (length l - 1 - i) no_row
at_reverse [] i h = absurd (omega arith)
at_reverse (x ∷ xs) i h = rw (reverse-cons x xs) (either (length xs) i _
    (λ k. let z : i ≡ length (reverse xs) + 0 = omega (arith, length-reverse xs) in let y : suc (length xs) - 1 - i ≡ 0 = omega arith in
    rw y (ap (λ (m : ℕ). get_or (reverse xs ++ (x ∷ [])) m no_row) z ∙ get_or-append-add (reverse xs) (x ∷ []) 0 no_row))
    (λ k. let z : i < length (reverse xs) = omega (arith, length-reverse xs) in let y : suc (length xs) - 1 - i ≡ suc (length xs - 1 - i) = omega arith in
    rw y (get_or-append (reverse xs) (x ∷ []) no_row i z ∙ at_reverse xs i k)))

-- a row turned
abbrev pub turn_on : Strand → ℕ → ℕ → Row → Row
turn_on k ts qs b = record { target = strand_start k qs b.query (query_end b); query = strand_start k ts b.target (target_end b); size = b.size }

pub turned_at : (k : Strand) (ts qs n : ℕ) (bs : List Row) → length bs ≡ n → (i : ℕ) → i < n → get_or (turned_rows_on k ts qs bs) i no_row ≡ turn_on k ts qs (get_or bs (source_of k n i) no_row)
turned_at Plus ts qs n bs e i h = at_map swap_row bs i (omega arith)
turned_at Dot ts qs n bs e i h = at_map swap_row bs i (omega arith)
turned_at Minus ts qs n bs e i h =
    let l : i < length (map (turn_row ts qs) bs) = omega (arith, length-map bs (turn_row ts qs)) in
    let m : length (map (turn_row ts qs) bs) - 1 - i ≡ n - 1 - i = omega (arith, length-map bs (turn_row ts qs)) in
    let o : n - 1 - i < length bs = omega arith in
    at_reverse (map (turn_row ts qs) bs) i l ∙ ap (λ (j : ℕ). get_or (map (turn_row ts qs) bs) j no_row) m ∙ at_map (turn_row ts qs) bs (n - 1 - i) o

-- ---- turned again
swap_twice : (bs : List Row) → map swap_row (map swap_row bs) ≡ bs
swap_twice [] = refl
swap_twice (b ∷ bs) = ap (λ (l : List Row). b ∷ l) (swap_twice bs)

there_and_back : (n t s : ℕ) → t + s ≤ n → n - (n - (t + s) + s) ≡ t
there_and_back n t s h = omega arith

module _ (ts qs te qe : ℕ) (h : te ≤ ts) (k : qe ≤ qs) where
  turn_twice : (a b : ℕ) (bs : List Row) → Run te qe a b bs → map (turn_row qs ts) (map (turn_row ts qs) bs) ≡ bs
  turn_twice a b [] r = refl
  turn_twice a b (x ∷ xs) r =
      let l = run_below te qe (target_end x) (query_end x) xs r.3 in
      let u = there_and_back ts x.target x.size (omega arith) in let v = there_and_back qs x.query x.size (omega arith) in
      ap₂ (λ (y : Row) (l : List Row). y ∷ l) (λ i. record { target = u i; query = v i; size = x.size }) (turn_twice (target_end x) (query_end x) xs r.3)

  pub on_twice : (s : Strand) (a b : ℕ) (bs : List Row) → Run te qe a b bs → turned_rows_on s qs ts (turned_rows_on s ts qs bs) ≡ bs
  on_twice Plus a b bs r = swap_twice bs
  on_twice Dot a b bs r = swap_twice bs
  on_twice Minus a b bs r =
      ap reverse (map_reverse (turn_row qs ts) (map (turn_row ts qs) bs)) ∙ reverse-reverse (map (turn_row qs ts) (map (turn_row ts qs) bs)) ∙ turn_twice a b bs r
