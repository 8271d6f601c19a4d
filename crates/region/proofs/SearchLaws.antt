-- Blocks by their number: what halving finds is the reach of a region. Assumes nothing.
use mathlib.Core.Path.{◌≡◌, refl, sym, ap, ◌∙◌}
use mathlib.Core.Logic.{⊎_elim}
use mathlib.Core.Bool.{Bool, true, false, not, ◌&&◌, ◌||◌}
use mathlib.Core.List.{List, [], ◌∷◌, Memᴰ}
use Prim.Native.Nat.{ℕ, zero, suc, ◌+◌, ◌-◌, ◌*◌, ◌/◌, ◌%◌, ◌≤◌, ◌<◌, min, max}
use native.Mathlib.Omega.{arith}
use lib.ListN.{length, get_or, set}
use lib.Seq.{get_or-set_same, get_or-set_other}
use lib.Dec.{leb, ltb}
use borrow.Author.Tests.{lt-leb, le-leb, lt-ltb, le-ltb, leb-true, leb-false, ltb-true, ltb-false}
use Rattle.blocks.specs.Strands.{strand_start, strand_end}
use Rattle.ledger.specs.Limits.{largest_position, largest_number, block_limit}
use Rattle.ledger.specs.declared.Strand.{Strand}
use Rattle.ledger.specs.declared.Strand.TheVariants.{Plus, Minus, Dot}
use Rattle.ledger.specs.declared.Row.{Row}
use Rattle.blocks.specs.Rows.{table_of, target_end, query_end, no_row, row_at}
use Rattle.blocks.proofs.TableLaws.{taken, taken_length, taken_at}
use Rattle.chain.specs.declared.Chain.{Chain}
use Rattle.lift.specs.Accepted.{Ready}
use Rattle.lift.specs.Pairs.{Pair, pair, forward_on, forward, block_pairs, pairs_of, pairs, partner_of}
use Rattle.lift.proofs.RunLaws.{either, Run}
use Rattle.lift.proofs.PairLaws.{block_in, block_after, in_block_lem, found_mem}
use Rattle.lift.proofs.AcceptLaws.{accepted_rules}
use Rattle.region.specs.Regions.{kept, dropped, one, partners_in, least, bound, inside}
use Rattle.region.specs.declared.Reach.{Reach}
use Rattle.region.specs.Reaches.{lap, covered, Reached, no_reach, Found}
use Rattle.region.specs.Searches.{Rising, LastBelow, BlockPast, Meets, sizes_before, SizesFrom, Summable, Summed, Layable, Laid, Indexed}
use Rattle.region.proofs.CountLaws.{kept_covered, kept_dropped}
use Rattle.region.proofs.RegionLaws.{partner_in, in_partner, least_holds, least_greatest, bound_holds, bound_least, no_member, kept_partners}
use Rattle.std.specs.Prelude.{Some}

-- ---- a run of blocks, by their numbers
run_above : (te qe u v : ℕ) (bs : List Row) → Run te qe u v bs → (l : ℕ) → l < length bs → (u ≤ (get_or bs l no_row).target) × (v ≤ (get_or bs l no_row).query)
run_above te qe u v [] r l h = absurd (omega arith)
run_above te qe u v (x ∷ xs) r zero h = (r.1, r.2)
run_above te qe u v (x ∷ xs) r (suc l) h = let w = run_above te qe (target_end x) (query_end x) xs r.3 l (omega arith) in (omega arith, omega arith)

run_later : (te qe u v : ℕ) (bs : List Row) → Run te qe u v bs → (k l : ℕ) → k < l → l < length bs
    → (target_end (get_or bs k no_row) ≤ (get_or bs l no_row).target) × (query_end (get_or bs k no_row) ≤ (get_or bs l no_row).query)
run_later te qe u v [] r k l h m = absurd (omega arith)
run_later te qe u v (x ∷ xs) r k zero h m = absurd (omega arith)
run_later te qe u v (x ∷ xs) r zero (suc l) h m = run_above te qe (target_end x) (query_end x) xs r.3 l (omega arith)
run_later te qe u v (x ∷ xs) r (suc k) (suc l) h m = run_later te qe (target_end x) (query_end x) xs r.3 k l (omega arith) (omega arith)

run_some : (te qe u v : ℕ) (bs : List Row) → Run te qe u v bs → (k : ℕ) → k < length bs → 1 ≤ (get_or bs k no_row).size
run_some te qe u v [] r k h = absurd (omega arith)
run_some te qe u v (x ∷ xs) r zero h = r.0
run_some te qe u v (x ∷ xs) r (suc k) h = run_some te qe (target_end x) (query_end x) xs r.3 k (omega arith)

-- the block that a pair stands in
record InRow (f : ℕ → ℕ) (bs : List Row) (x : Pair) : Type 0 where
  at : ℕ
  inside : at < length bs
  low : (get_or bs at no_row).target ≤ x.target
  high : x.target < target_end (get_or bs at no_row)
  is : x.query ≡ f ((get_or bs at no_row).query + (x.target - (get_or bs at no_row).target))

mem_row : (f : ℕ → ℕ) (bs : List Row) (x : Pair) → Memᴰ x (pairs_of f bs) → InRow f bs x
unfolding pairs_of
mem_row f [] x m = absurd (mathlib.Core.List.Memᴰ.not-nil m)
mem_row f (b ∷ bs) x m = ⊎_elim
    (λ k. let h = in_block_lem f b.target b.query b.size x k in
    record { at = 0; inside = omega arith; low = h.0; high = h.1; is = h.2 })
    (λ k. let h = mem_row f bs x k in
    record { at = suc h.at; inside = omega (arith, h.inside); low = h.low; high = h.high; is = h.is })
    (mathlib.Core.List.Memᴰ.append_cases (block_pairs f b.target b.query b.size) m)

-- a base of a block stands in a pair
row_pair : (f : ℕ → ℕ) (te qe u v : ℕ) (bs : List Row) → Run te qe u v bs → (k p : ℕ) → k < length bs → (get_or bs k no_row).target ≤ p → p < target_end (get_or bs k no_row)
    → partner_of p (pairs_of f bs) ≡ Some (f ((get_or bs k no_row).query + (p - (get_or bs k no_row).target)))
unfolding pairs_of
row_pair f te qe u v [] r k p h l m = absurd (omega arith)
row_pair f te qe u v (x ∷ xs) r zero p h l m = block_in f p x.target x.query x.size (pairs_of f xs) l m
row_pair f te qe u v (x ∷ xs) r (suc k) p h l m =
    let w = run_above te qe (target_end x) (query_end x) xs r.3 k (omega arith) in
    block_after f p x.target x.query x.size (pairs_of f xs) (omega arith)
    ∙ row_pair f te qe (target_end x) (query_end x) xs r.3 k p (omega arith) l m

-- ---- how many bases below x the blocks hold
unfoldable below : ℕ → List Row → ℕ
below x [] = 0
below x (b ∷ bs) = min (x - b.target) b.size + below x bs

lap_from : (a e t n : ℕ) → t < a → a ≤ e → min e (t + n) - a + min (a - t) n ≡ min (e - t) n
lap_from a e t n h k = omega arith

lap_whole : (e t n : ℕ) → min e (t + n) - t + min 0 n ≡ min (e - t) n
lap_whole e t n = omega arith

lap_below : (a e t n : ℕ) → a ≤ e → lap a e t n + min (a - t) n ≡ min (e - t) n
lap_below a e t n h = either a t _
    (λ k. let u : max a t ≡ t = omega arith in let v : a - t ≡ 0 = omega arith in rw (u, v) (lap_whole e t n))
    (λ k. let u : max a t ≡ a = omega arith in rw u (lap_from a e t n k h))

covered_below : (a e : ℕ) (bs : List Row) → a ≤ e → covered a e bs + below a bs ≡ below e bs
unfolding covered below
covered_below a e [] h = refl
covered_below a e (b ∷ bs) h = omega (arith, lap_below a e b.target b.size h, covered_below a e bs h)

below_none : (x : ℕ) (bs : List Row) → ((l : ℕ) → l < length bs → x ≤ (get_or bs l no_row).target) → below x bs ≡ 0
unfolding below
below_none x [] f = refl
below_none x (b ∷ bs) f =
    let h : x ≤ b.target = f 0 (omega arith) in
    omega (arith, below_none x bs (λ l k. f (suc l) (omega arith)))

-- the sizes before a block
unfoldable rows_before : List Row → ℕ → ℕ
rows_before bs zero = 0
rows_before [] (suc k) = 0
rows_before (b ∷ bs) (suc k) = b.size + rows_before bs k

-- where the blocks before k end at or before x and those after it start at or past x
below_at : (x : ℕ) (bs : List Row) (k : ℕ) → k < length bs → ((l : ℕ) → l < k → target_end (get_or bs l no_row) ≤ x) → ((l : ℕ) → k < l → l < length bs → x ≤ (get_or bs l no_row).target)
    → below x bs ≡ rows_before bs k + min (x - (get_or bs k no_row).target) (get_or bs k no_row).size
unfolding below rows_before
below_at x [] k h f g = absurd (omega arith)
below_at x (b ∷ bs) zero h f g = omega (arith, below_none x bs (λ l m. g (suc l) (omega arith) (omega arith)))
below_at x (b ∷ bs) (suc k) h f g =
    let e : target_end b ≤ x = f 0 (omega arith) in
    omega (arith, below_at x bs k (omega arith) (λ l m. f (suc l) (omega arith)) (λ l m n. g (suc l) (omega arith) (omega arith)))

rows_next : (bs : List Row) (k : ℕ) → k < length bs → rows_before bs (suc k) ≡ rows_before bs k + (get_or bs k no_row).size
unfolding rows_before
rows_next [] k h = absurd (omega arith)
rows_next (b ∷ bs) zero h = omega arith
rows_next (b ∷ bs) (suc k) h = omega (arith, rows_next bs k (omega arith))

pub sizes_next : (zs : List ℕ) (k : ℕ) → k < length zs → sizes_before zs (suc k) ≡ sizes_before zs k + get_or zs k 0
unfolding sizes_before
sizes_next [] k h = absurd (omega arith)
sizes_next (z ∷ zs) zero h = omega arith
sizes_next (z ∷ zs) (suc k) h = omega (arith, sizes_next zs k (omega arith))

sizes_order : (zs : List ℕ) (i j : ℕ) → i ≤ j → sizes_before zs i ≤ sizes_before zs j
unfolding sizes_before
sizes_order zs zero j h = omega arith
sizes_order zs (suc i) zero h = absurd (omega arith)
sizes_order [] (suc i) (suc j) h = omega arith
sizes_order (z ∷ zs) (suc i) (suc j) h = omega (arith, sizes_order zs i j (omega arith))

pub sizes_none : (zs : List ℕ) → sizes_before zs 0 ≡ 0
unfolding sizes_before
sizes_none zs = refl

rows_none : (bs : List Row) → rows_before bs 0 ≡ 0
unfolding rows_before
rows_none bs = refl

-- ---- the query region of bases from first to last − 1 on a strand
module _ (k : Strand) (size first span : ℕ) (h : 1 ≤ span) (l : first + span ≤ size) where
  held_by : (s : ℕ) → first ≤ s → s < first + span → (strand_start k size first (first + span) ≤ forward_on k size s) × (forward_on k size s < strand_end k size first (first + span))
  held_by s m n = go k
    where
      go : (k : Strand) → (strand_start k size first (first + span) ≤ forward_on k size s) × (forward_on k size s < strand_end k size first (first + span))
      go Plus = (omega arith, omega arith)
      go Minus = (omega arith, omega arith)
      go Dot = (omega arith, omega arith)

  low_in : (xs : List ℕ) → Memᴰ (forward_on k size first) xs → Memᴰ (forward_on k size (first + span - 1)) xs → Memᴰ (strand_start k size first (first + span)) xs
  low_in xs m n = go k m n
    where
      e : size - (first + span - 1 + 1) ≡ size - (first + span)
      e = omega arith

      go : (k : Strand) → Memᴰ (forward_on k size first) xs → Memᴰ (forward_on k size (first + span - 1)) xs → Memᴰ (strand_start k size first (first + span)) xs
      go Plus m n = m
      go Minus m n = rw e at n
      go Dot m n = m

  high_in : (xs : List ℕ) → Memᴰ (forward_on k size first) xs → Memᴰ (forward_on k size (first + span - 1)) xs → Memᴰ (strand_end k size first (first + span) - 1) xs
  high_in xs m n = go k m n
    where
      e : size - (first + 1) ≡ size - first - 1
      e = omega arith

      go : (k : Strand) → Memᴰ (forward_on k size first) xs → Memᴰ (forward_on k size (first + span - 1)) xs → Memᴰ (strand_end k size first (first + span) - 1) xs
      go Plus m n = n
      go Minus m n = rw e at m
      go Dot m n = n

  low_most : strand_start k size first (first + span) ≤ size
  low_most = go k
    where
      go : (k : Strand) → strand_start k size first (first + span) ≤ size
      go Plus = omega arith
      go Minus = omega arith
      go Dot = omega arith

  high_some : 1 ≤ strand_end k size first (first + span)
  high_some = go k
    where
      go : (k : Strand) → 1 ≤ strand_end k size first (first + span)
      go Plus = omega arith
      go Minus = omega arith
      go Dot = omega arith

  -- partners that all lie there, the first and the last base's among them
  module _ (xs : List ℕ) (m : Memᴰ (forward_on k size first) xs) (n : Memᴰ (forward_on k size (first + span - 1)) xs)
      (all : (x : ℕ) → Memᴰ x xs → (strand_start k size first (first + span) ≤ x) × (x < strand_end k size first (first + span))) where
    least_is : strand_start k size first (first + span) ≡ least size xs
    least_is =
        let u = least_holds size xs _ (low_in xs m n) in
        let v = least_greatest size (strand_start k size first (first + span)) xs low_most (λ x j. (all x j).0) in
        omega arith

    bound_is : strand_end k size first (first + span) ≡ bound 0 xs
    bound_is =
        let u = bound_holds 0 xs _ (high_in xs m n) in
        let v = bound_least 0 (strand_end k size first (first + span)) xs (omega arith) (λ x j. (all x j).1) in
        omega (arith, high_some)

least_none : (d : ℕ) (xs : List ℕ) → ((x : ℕ) → Memᴰ x xs → ⊥) → d ≡ least d xs
unfolding least
least_none d [] f = refl
least_none d (x ∷ xs) f = absurd (f x (mathlib.Core.List.Memᴰ.head refl))

bound_none : (d : ℕ) (xs : List ℕ) → ((x : ℕ) → Memᴰ x xs → ⊥) → d ≡ bound d xs
unfolding bound
bound_none d [] f = refl
bound_none d (x ∷ xs) f = absurd (f x (mathlib.Core.List.Memᴰ.head refl))

split_of : (k l d n : ℕ) → k ≡ l → l + d ≡ n → (n - k ≡ d) × (k ≤ n)
split_of k l d n e f = (omega arith, omega arith)

inner_is : (n i j to from : ℕ) → n + i ≡ j → n + to - from ≡ j + to - (i + from)
inner_is n i j to from e = omega arith

span_of : (f l : ℕ) → f < l → (1 ≤ l - f) × (f + (l - f) ≡ l)
span_of f l h = (omega arith, omega arith)

-- ---- an accepted chain's columns
module _ (c : Chain) (t q z : List ℕ) (ok : Ready c t q z) where
  count : length (taken c.blockCount t q z) ≡ c.blockCount
  count = taken_length c.blockCount t q z ok.wide.targets ok.wide.queries ok.wide.sizes

  at : (k : ℕ) → k < c.blockCount → get_or (taken c.blockCount t q z) k no_row ≡ row_at t q z k
  at k h = taken_at c.blockCount t q z ok.wide.targets ok.wide.queries ok.wide.sizes k h

  pub few : c.blockCount ≤ block_limit
  few = (accepted_rules c (table_of t q z) ok.ok).few_blocks

  run : Run c.tEnd c.qEnd c.tStart c.qStart (taken c.blockCount t q z)
  run = (accepted_rules c (table_of t q z) ok.ok).placed.run

  later : (k l : ℕ) → k < l → l < c.blockCount → (get_or t k 0 + get_or z k 0 ≤ get_or t l 0) × (get_or q k 0 + get_or z k 0 ≤ get_or q l 0)
  later k l h m =
      let i : l < length (taken c.blockCount t q z) = omega (arith, count) in
      let w = run_later c.tEnd c.qEnd c.tStart c.qStart (taken c.blockCount t q z) run k l h i in
      rw (at k (omega arith), at l m) at w

  some : (k : ℕ) → k < c.blockCount → 1 ≤ get_or z k 0
  some k h =
      let i : k < length (taken c.blockCount t q z) = omega (arith, count) in
      rw (at k h) at (run_some c.tEnd c.qEnd c.tStart c.qStart (taken c.blockCount t q z) run k i)

  before_is : (k : ℕ) → k ≤ c.blockCount → rows_before (taken c.blockCount t q z) k ≡ sizes_before z k
  before_is zero h = rows_none (taken c.blockCount t q z) ∙ sym (sizes_none z)
  before_is (suc k) h =
      let i : k < length (taken c.blockCount t q z) = omega (arith, count) in
      let j : k < length z = omega (arith, ok.wide.sizes) in
      let e : (get_or (taken c.blockCount t q z) k no_row).size ≡ get_or z k 0 = ap (λ (b : Row). b.size) (at k (omega arith)) in
      omega (arith, rows_next (taken c.blockCount t q z) k i, sizes_next z k j, before_is k (omega arith))

  -- the sizes before a block are no more than the bases before it
  pub before_fits : (k : ℕ) → k < c.blockCount → sizes_before z k ≤ get_or t k 0
  before_fits zero h = omega (arith, sizes_none z)
  before_fits (suc k) h =
      let j : k < length z = omega (arith, ok.wide.sizes) in
      omega (arith, sizes_next z k j, before_fits k (omega arith), (later k (suc k) (omega arith) h).0)

  pub summable : Summable c.blockCount z
  summable = record { few = few; wide = ok.wide.sizes; fits = fits }
    where
      fits : (k : ℕ) → k ≤ c.blockCount → sizes_before z k ≤ largest_position
      fits zero h = omega (arith, sizes_none z)
      fits (suc k) h =
          let j : k < length z = omega (arith, ok.wide.sizes) in
          let b : k < c.blockCount = omega arith in
          omega (arith, sizes_next z k j, before_fits k b, ok.t_block k b, ok.t_inside, ok.t_most)

  -- the starts rise, and so does a column laid with them
  pub starts_rise : Rising t c.blockCount
  starts_rise = record { some = ok.some; wide = ok.wide.targets; rises = rises; small = small }
    where
      small : (k : ℕ) → k < c.blockCount → get_or t k 0 ≤ largest_position
      small k h = omega (arith, ok.t_block k h, ok.t_inside, ok.t_most)

      rises : (k l : ℕ) → k ≤ l → l < c.blockCount → get_or t k 0 ≤ get_or t l 0
      rises k l h n = either l k _
          (λ o. let e : k ≡ l = omega arith in omega (arith, ap (λ (i : ℕ). get_or t i 0) e))
          (λ o. omega (arith, (later k l o n).0))

  pub laid_rise : (xs : List ℕ) → Laid c.blockCount t xs → Rising xs block_limit
  laid_rise xs laid = record { some = omega arith; wide = omega (arith, laid.room); rises = rises; small = small }
    where
      small : (k : ℕ) → k < block_limit → get_or xs k 0 ≤ largest_position
      small k h = either c.blockCount k _
          (λ o. omega (arith, laid.rest k o h))
          (λ o. omega (arith, laid.starts k o, starts_rise.small k o))

      rises : (k l : ℕ) → k ≤ l → l < block_limit → get_or xs k 0 ≤ get_or xs l 0
      rises k l h m = either c.blockCount l _
          (λ n. omega (arith, small k (omega arith), laid.rest l n m))
          (λ n. omega (arith, laid.starts k (omega arith), laid.starts l n, starts_rise.rises k l h n))

  -- ---- a region that blocks i to j meet
  module _ (a e i j : ℕ) (h : a < e) (m : Meets c.blockCount t z a e i j) where
    last_in : j < length (taken c.blockCount t q z)
    last_in = omega (arith, count, m.inside)

    first_in : i < length (taken c.blockCount t q z)
    first_in = omega (arith, last_in, m.order)

    -- the bases of the blocks below its end, and below its start
    below_end : below e (taken c.blockCount t q z) ≡ sizes_before z j + min (e - get_or t j 0) (get_or z j 0)
    below_end =
        let n = m.inside in
        let w = below_at e (taken c.blockCount t q z) j last_in
        (λ l k. rw (at l (omega arith)) (omega (arith, (later l j k n).0, m.last)))
        (λ l k o. let b : l < c.blockCount = omega (arith, count) in rw (at l b) (m.later l k b)) in
        rw (before_is j (omega arith), at j n) at w

    below_start : below a (taken c.blockCount t q z) ≡ sizes_before z i + (a - get_or t i 0)
    below_start =
        let n : i < c.blockCount = omega (arith, m.inside, m.order) in
        let w = below_at a (taken c.blockCount t q z) i first_in
        (λ l k. rw (at l (omega arith)) (m.earlier l k))
        (λ l k o. let b : l < c.blockCount = omega (arith, count) in rw (at l b) (omega (arith, (later i l k b).0, m.first))) in
        let v : below a (taken c.blockCount t q z) ≡ sizes_before z i + min (a - get_or t i 0) (get_or z i 0) = rw (before_is i (omega arith), at i n) at w in
        omega (arith, m.first, some i n)

    between : covered a e (taken c.blockCount t q z) + (sizes_before z i + (a - get_or t i 0)) ≡ sizes_before z j + min (e - get_or t j 0) (get_or z j 0)
    between = omega (arith, covered_below a e (taken c.blockCount t q z) (omega arith), below_end, below_start)

    -- a pair of the region stands in one of these blocks
    in_order : (x : Pair) → (r : InRow (forward c) (taken c.blockCount t q z) x) → a ≤ x.target → x.target < e → (i ≤ r.at) × (r.at ≤ j)
    in_order x r u v =
        let n : r.at < c.blockCount = omega (arith, r.inside, count) in
        let lo : get_or t r.at 0 ≤ x.target = rw (at r.at n) at r.low in
        let hi : x.target < get_or t r.at 0 + get_or z r.at 0 = rw (at r.at n) at r.high in (
          either i r.at _ (λ k. k) (λ k. absurd (omega (arith, m.earlier r.at k))),
          either r.at j _ (λ k. k) (λ k. absurd (omega (arith, m.later r.at k n))),
        )

    module _ (from to : ℕ) (ef : from ≡ max a (get_or t i 0)) (et : to ≡ min (e - get_or t j 0) (get_or z j 0)) where
      i_in : i < c.blockCount
      i_in = omega (arith, m.inside, m.order)

      from_in : (get_or t i 0 ≤ from) × (a ≤ from) × (from < get_or t i 0 + get_or z i 0)
      from_in = let u = some i i_in in let v = m.first in (omega arith, omega arith, omega arith)

      to_in : (1 ≤ to) × (to ≤ get_or z j 0) × (to ≤ e - get_or t j 0)
      to_in = let u = some j m.inside in let v = m.last in (omega arith, omega arith, omega arith)

      same : (xs : List ℕ) → i ≡ j → get_or xs i 0 ≡ get_or xs j 0
      same xs k = ap (λ (n : ℕ). get_or xs n 0) k

      from_end : from < get_or t j 0 + to
      from_end = either (suc i) j _
          (λ k. omega (arith, (later i j k m.inside).0, from_in, to_in))
          (λ k. let d : i ≡ j = omega (arith, m.order) in omega (arith, same t d, same z d, m.first, m.last, some j m.inside))

      first_in_order : get_or q i 0 + (from - get_or t i 0) < get_or q j 0 + to
      first_in_order = either (suc i) j _
          (λ k. omega (arith, (later i j k m.inside).1, from_in, to_in))
          (λ k. let d : i ≡ j = omega (arith, m.order) in omega (arith, same t d, same q d, from_end, from_in))

      query_end_lem : get_or q j 0 + to ≤ c.qSize
      query_end_lem = omega (arith, to_in, ok.q_block j m.inside, ok.q_inside)

      -- what the code computes fits
      pub first_fits : get_or q i 0 + (from - get_or t i 0) < suc largest_number
      first_fits = omega (arith, first_in_order, query_end_lem, ok.q_most)

      pub last_fits : get_or q j 0 + to < suc largest_number
      last_fits = omega (arith, query_end_lem, ok.q_most)

      pub first_before : get_or q i 0 + (from - get_or t i 0) ≤ get_or q j 0 + to
      first_before = omega (arith, first_in_order)

      pub span_fits_lem : (get_or q i 0 + (from - get_or t i 0) + (get_or q j 0 + to - (get_or q i 0 + (from - get_or t i 0))) ≤ c.qSize) × (c.qSize ≤ largest_position)
      span_fits_lem = (omega (arith, first_in_order, query_end_lem), ok.q_most)

      module _ (n : ℕ) (sum : SizesFrom z i j n) where
        pub inner_fits : n + to < suc largest_number
        inner_fits = omega (arith, sum.is, before_fits j m.inside, ok.t_block j m.inside, to_in, ok.t_inside, ok.t_most)

        pub from_below : from - get_or t i 0 ≤ n + to
        from_below = omega (arith, sum.is, between)

      kept_is : covered a e (taken c.blockCount t q z) ≡ sizes_before z j + to - (sizes_before z i + (from - get_or t i 0))
      kept_is = omega (arith, between)

      -- every base of the region that stands in a pair has its partner from the first kept base's to the last one's
      base_in : (x : Pair) (r : InRow (forward c) (taken c.blockCount t q z) x) → a ≤ x.target → x.target < e
          → (get_or q i 0 + (from - get_or t i 0) ≤ get_or q r.at 0 + (x.target - get_or t r.at 0)) × (get_or q r.at 0 + (x.target - get_or t r.at 0) < get_or q j 0 + to)
      base_in x r u v =
          let n : r.at < c.blockCount = omega (arith, r.inside, count) in
          let lo : get_or t r.at 0 ≤ x.target = rw (at r.at n) at r.low in
          let hi : x.target < get_or t r.at 0 + get_or z r.at 0 = rw (at r.at n) at r.high in
          let w = in_order x r u v in (
            either (suc i) r.at _
                (λ k. omega (arith, (later i r.at k n).1, from_in))
                (λ k. let d : i ≡ r.at = omega arith in omega (arith, ap (λ (n : ℕ). get_or t n 0) d, ap (λ (n : ℕ). get_or q n 0) d)),
            either (suc r.at) j _
                (λ k. omega (arith, (later r.at j k m.inside).1, to_in))
                (λ k. let d : r.at ≡ j = omega arith in
                omega (arith, ap (λ (n : ℕ). get_or t n 0) d, ap (λ (n : ℕ). get_or q n 0) d, ap (λ (n : ℕ). get_or z n 0) d)),
          )

      -- the partners of the first and of the last kept base
      first_partner : Memᴰ (forward c (get_or q i 0 + (from - get_or t i 0))) (partners_in a e (pairs c (table_of t q z)))
      unfolding pairs
      first_partner =
          let lo : (get_or (taken c.blockCount t q z) i no_row).target ≤ from = rw (at i i_in) from_in.0 in
          let hi : from < target_end (get_or (taken c.blockCount t q z) i no_row) = rw (at i i_in) from_in.2 in
          let w = row_pair (forward c) c.tEnd c.qEnd c.tStart c.qStart (taken c.blockCount t q z) run i from first_in lo hi in
          partner_in a e (pairs_of (forward c) (taken c.blockCount t q z)) from _ (found_mem from _ _ (rw (at i i_in) at w)) from_in.1 (omega (arith, from_end, to_in, m.last))

      last_partner : Memᴰ (forward c (get_or q j 0 + to - 1)) (partners_in a e (pairs c (table_of t q z)))
      unfolding pairs
      last_partner =
          let n = m.inside in
          let d : get_or q j 0 + (get_or t j 0 + (to - 1) - get_or t j 0) ≡ get_or q j 0 + to - 1 = omega (arith, to_in) in
          let lo : (get_or (taken c.blockCount t q z) j no_row).target ≤ get_or t j 0 + (to - 1) = rw (at j n) (omega arith) in
          let hi : get_or t j 0 + (to - 1) < target_end (get_or (taken c.blockCount t q z) j no_row) = rw (at j n) (omega (arith, to_in)) in
          let w = row_pair (forward c) c.tEnd c.qEnd c.tStart c.qStart (taken c.blockCount t q z) run j (get_or t j 0 + (to - 1)) last_in lo hi in
          let y : partner_of (get_or t j 0 + (to - 1)) (pairs_of (forward c) (taken c.blockCount t q z)) ≡ Some (forward c (get_or q j 0 + (get_or t j 0 + (to - 1) - get_or t j 0))) = rw (at j n) at w in
          let v = partner_in a e (pairs_of (forward c) (taken c.blockCount t q z)) (get_or t j 0 + (to - 1)) _ (found_mem (get_or t j 0 + (to - 1)) _ _ y) (omega (arith, from_end, from_in, to_in)) (omega (arith, to_in, m.last)) in
          rw d at v

      all_in : (x : ℕ) → Memᴰ x (partners_in a e (pairs c (table_of t q z)))
          → (strand_start c.qStrand c.qSize (get_or q i 0 + (from - get_or t i 0)) ((get_or q i 0 + (from - get_or t i 0)) + (get_or q j 0 + to - (get_or q i 0 + (from - get_or t i 0)))) ≤ x)
          × (x < strand_end c.qStrand c.qSize (get_or q i 0 + (from - get_or t i 0)) ((get_or q i 0 + (from - get_or t i 0)) + (get_or q j 0 + to - (get_or q i 0 + (from - get_or t i 0)))))
      unfolding pairs
      all_in x k =
          let v = in_partner a e (pairs c (table_of t q z)) x k in
          let r = mem_row (forward c) (taken c.blockCount t q z) (pair v.base x) v.in_pairs in
          let n : r.at < c.blockCount = omega (arith, r.inside, count) in
          let w = base_in (pair v.base x) r v.first v.below in
          let y : x ≡ forward c (get_or q r.at 0 + (v.base - get_or t r.at 0)) = rw (at r.at n) at r.is in
          rw y (held_by c.qStrand c.qSize (get_or q i 0 + (from - get_or t i 0)) (get_or q j 0 + to - (get_or q i 0 + (from - get_or t i 0)))
          (omega (arith, first_in_order)) (omega (arith, first_in_order, query_end_lem)) (get_or q r.at 0 + (v.base - get_or t r.at 0)) w.0 (omega (arith, w.1, first_in_order)))

      -- THE REACH from the first kept base to the last
      pub reached_across : (n : ℕ) → SizesFrom z i j n → (low high : ℕ)
          → low ≡ strand_start c.qStrand c.qSize (get_or q i 0 + (from - get_or t i 0)) (get_or q j 0 + to)
          → high ≡ strand_end c.qStrand c.qSize (get_or q i 0 + (from - get_or t i 0)) (get_or q j 0 + to)
          → Reached c.qSize a e (pairs c (table_of t q z)) (record { kept = n + to - (from - get_or t i 0); low = low; high = high })
      reached_across n sum low high el eh =
          let first : ℕ = get_or q i 0 + (from - get_or t i 0) in
          let span : ℕ = get_or q j 0 + to - (get_or q i 0 + (from - get_or t i 0)) in
          let l : a ≤ e = omega arith in
          let kc : kept (pairs c (table_of t q z)) a e ≡ covered a e (taken c.blockCount t q z) = unfold pairs in kept_covered (forward c) c.tEnd c.qEnd c.tStart c.qStart (taken c.blockCount t q z) run a e l in
          let kd = kept_dropped (pairs c (table_of t q z)) a e in
          let ki : n + to - (from - get_or t i 0) ≡ kept (pairs c (table_of t q z)) a e = inner_is n (sizes_before z i) (sizes_before z j) to (from - get_or t i 0) sum.is ∙ sym kept_is ∙ sym kc in
          let sp = split_of _ (kept (pairs c (table_of t q z)) a e) (dropped (pairs c (table_of t q z)) a e) (e - a) ki kd in
          let sn = span_of first (get_or q j 0 + to) first_in_order in
          let h₁ : 1 ≤ span = sn.0 in
          let h₂ : first + span ≤ c.qSize = rw sn.1 query_end_lem in
          let h₃ : first + span - 1 ≡ get_or q j 0 + to - 1 = ap (λ (n : ℕ). n - 1) sn.1 in
          let lp : Memᴰ (forward c (first + span - 1)) (partners_in a e (pairs c (table_of t q z))) = rw h₃ last_partner in
          record {
            is_kept = ki;
            is_low = el ∙ ap (λ (n : ℕ). strand_start c.qStrand c.qSize first n) (sym sn.1) ∙ least_is c.qStrand c.qSize first span h₁ h₂ (partners_in a e (pairs c (table_of t q z))) first_partner lp all_in;
            is_high = eh ∙ ap (λ (n : ℕ). strand_end c.qStrand c.qSize first n) (sym sn.1) ∙ bound_is c.qStrand c.qSize first span h₁ h₂ (partners_in a e (pairs c (table_of t q z))) first_partner lp all_in;
            is_dropped = sp.0;
            fits = sp.1;
          }

  -- ---- a region that no block meets
  none_in : (a e : ℕ) → ((k : ℕ) → k < c.blockCount → get_or t k 0 < e → a < get_or t k 0 + get_or z k 0 → ⊥) → (x : ℕ) → Memᴰ x (partners_in a e (pairs c (table_of t q z))) → ⊥
  unfolding pairs
  none_in a e f x k =
      let v = in_partner a e (pairs c (table_of t q z)) x k in
      let r = mem_row (forward c) (taken c.blockCount t q z) (pair v.base x) v.in_pairs in
      let n : r.at < c.blockCount = omega (arith, r.inside, count) in
      let lo : get_or t r.at 0 ≤ v.base = rw (at r.at n) at r.low in
      let hi : v.base < get_or t r.at 0 + get_or z r.at 0 = rw (at r.at n) at r.high in
      f r.at n (omega (arith, v.below)) (omega (arith, v.first))

  pub reached_none : (a e : ℕ) → a < e → ((k : ℕ) → k < c.blockCount → get_or t k 0 < e → a < get_or t k 0 + get_or z k 0 → ⊥)
      → Reached c.qSize a e (pairs c (table_of t q z)) (no_reach c.qSize)
  reached_none a e h f =
      let n = no_member (partners_in a e (pairs c (table_of t q z))) (none_in a e f) in
      let l : a ≤ e = omega arith in
      let kp = kept_partners c (table_of t q z) ok.ok a e l in
      let kd = kept_dropped (pairs c (table_of t q z)) a e in
      record {
        is_kept = omega arith;
        is_low = least_none c.qSize (partners_in a e (pairs c (table_of t q z))) (none_in a e f);
        is_high = bound_none 0 (partners_in a e (pairs c (table_of t q z))) (none_in a e f);
        is_dropped = omega arith;
        fits = omega arith;
      }

  -- ---- what halving finds in a laid column, it finds in the starts
  pub laid_below : (xs : List ℕ) → Laid c.blockCount t xs → (p r : ℕ) → p ≤ largest_position → LastBelow xs block_limit p r → LastBelow t c.blockCount p r
  laid_below xs laid p r h b = record {
    inside = r_in;
    below = λ l. omega (arith, laid.starts r r_in, b.below l);
    past = λ k l n. omega (arith, laid.starts k n, b.past k l (omega (arith, few)));
  }
    where
      r_in : r < c.blockCount
      r_in = either c.blockCount r _
          (λ k. absurd (omega (arith, ok.some, laid.rest r k b.inside, b.below (omega (arith, ok.some)))))
          (λ k. k)

  -- ---- from a region's ends to its blocks
  module _ (a e h i j : ℕ) (order : a < e) (bh : LastBelow t c.blockCount (a + 1) h) (bi : BlockPast h (get_or t h 0 + get_or z h 0) a i) (bj : LastBelow t c.blockCount e j) where
    earlier : (k : ℕ) → k < i → get_or t k 0 + get_or z k 0 ≤ a
    earlier k l = either (suc k) h _
        (λ n. omega (arith, (later k h n bh.inside).0, bh.below (omega arith)))
        (λ n. either (get_or t h 0 + get_or z h 0) a _
        (λ o. let d : k ≡ h = omega (arith, bi.next o) in omega (arith, ap (λ (n : ℕ). get_or t n 0) d, ap (λ (n : ℕ). get_or z n 0) d))
        (λ o. absurd (omega (arith, bi.this o))))

    first : i < c.blockCount → a < get_or t i 0 + get_or z i 0
    first n = either (get_or t h 0 + get_or z h 0) a _
        (λ o. let d = bi.next o in omega (arith, bh.past i (omega arith) n))
        (λ o. let d = bi.this o in omega (arith, ap (λ (n : ℕ). get_or t n 0) d, ap (λ (n : ℕ). get_or z n 0) d))

    pub meets_if : ltb j i || leb e (get_or t j 0) ≡ false → Meets c.blockCount t z a e i j
    meets_if w = go (ltb j i) (leb e (get_or t j 0)) refl refl w
      where
        go : (u v : Bool) → ltb j i ≡ u → leb e (get_or t j 0) ≡ v → u || v ≡ false → Meets c.blockCount t z a e i j
        go true v eu ev x = absurd (let d : ◌≡◌ {A = ℕ} 0 1 = cc in omega arith)
        go false true eu ev x = absurd (let d : ◌≡◌ {A = ℕ} 0 1 = cc in omega arith)
        go false false eu ev x =
            let o : i ≤ j = ltb-false j i eu in
            record { order = o; inside = bj.inside; earlier = earlier; first = first (omega (arith, bj.inside)); last = leb-false e (get_or t j 0) ev; later = bj.past }

    none_if : ltb j i || leb e (get_or t j 0) ≡ true → Reached c.qSize a e (pairs c (table_of t q z)) (no_reach c.qSize)
    none_if w = reached_none a e order (λ k n u v.
        let y : i ≤ k = either i k _ (λ o. o) (λ o. absurd (omega (arith, earlier k o))) in
        let x : k ≤ j = either k j _ (λ o. o) (λ o. absurd (omega (arith, bj.past k o n))) in
        go k n u y x (ltb j i) (leb e (get_or t j 0)) refl refl w)
      where
        go : (k : ℕ) → k < c.blockCount → get_or t k 0 < e → i ≤ k → k ≤ j → (u v : Bool) → ltb j i ≡ u → leb e (get_or t j 0) ≡ v → u || v ≡ true → ⊥
        go k n l y x true v eu ev o = omega (arith, ltb-true j i eu)
        go k n l y x false false eu ev o = let d : ◌≡◌ {A = ℕ} 0 1 = cc in omega arith
        go k n l y x false true eu ev o = either (suc k) j _
            (λ s. omega (arith, leb-true e (get_or t j 0) ev, bj.below (omega arith)))
            (λ s. let d : k ≡ j = omega arith in omega (arith, leb-true e (get_or t j 0) ev, ap (λ (n : ℕ). get_or t n 0) d))

    pub found_none : ltb j i || leb e (get_or t j 0) ≡ true → (r : Reach) → r ≡ no_reach c.qSize → Found c (table_of t q z) a e r
    found_none w r k = rw k (record { reached = λ _. none_if w; fits = omega arith })

  pub summable_to : (j : ℕ) → j < c.blockCount → Summable j z
  summable_to j h = let s = summable in record { few = omega (arith, s.few); wide = omega (arith, s.wide); fits = λ k l. s.fits k (omega arith) }

  pub column_order : (ys : List ℕ) → Summed c.blockCount z ys → (i j : ℕ) → i ≤ j → j < c.blockCount → get_or ys i 0 ≤ get_or ys j 0
  column_order ys sum i j h l = omega (arith, sum.sums i (omega arith), sum.sums j l, sizes_order z i j h)

  pub column_inner : (ys : List ℕ) → Summed c.blockCount z ys → (i j : ℕ) → i ≤ j → j < c.blockCount → SizesFrom z i j (get_or ys j 0 - get_or ys i 0)
  column_inner ys sum i j h l = record { is = omega (arith, sum.sums i (omega arith), sum.sums j l, sizes_order z i j h) }

-- inside the target, and not
pub outside_is : (size a e : ℕ) → leb e a || ltb size e ≡ not (ltb a e && leb e size)
outside_is size a e = either e a _
    (λ h. rw (le-leb e a h, le-ltb a e h))
    (λ h. rw (lt-leb e a h, lt-ltb a e h) (either e size _ (λ k. rw (le-ltb size e k, le-leb e size k)) (λ k. rw (lt-ltb size e k, lt-leb e size k))))

pub outside_found : (c : Chain) (rows : List Row) (a e : ℕ) (v : Bool) → v ≡ not (ltb a e && leb e c.tSize) → v ≡ true → (r : Reach) → r ≡ no_reach c.qSize → Found c rows a e r
unfolding inside
outside_found c rows a e v k h r q = rw q (record { reached = λ w. absurd (let d : true ≡ not true = sym h ∙ k ∙ ap not w in let z : ◌≡◌ {A = ℕ} 0 1 = cc in omega arith); fits = omega arith })

module _ (size a e : ℕ) (v : Bool) (is : v ≡ not (ltb a e && leb e size)) (h : v ≡ false) where
  inside_both : (a < e) × (e ≤ size)
  inside_both = go (ltb a e) (leb e size) refl refl (sym h ∙ is)
    where
      go : (x y : Bool) → ltb a e ≡ x → leb e size ≡ y → false ≡ not (x && y) → (a < e) × (e ≤ size)
      go true true ex ey w = (ltb-true a e ex, leb-true e size ey)
      go true false ex ey w = absurd (let z : ◌≡◌ {A = ℕ} 0 1 = cc in omega arith)
      go false y ex ey w = absurd (let z : ◌≡◌ {A = ℕ} 0 1 = cc in omega arith)

  pub inside_some : a < e
  inside_some = inside_both.0

  pub inside_last : e ≤ size
  inside_last = inside_both.1

  pub inside_order : a ≤ e
  inside_order = omega (arith, inside_some)

module _ (c : Chain) (t q z : List ℕ) (ok : Ready c t q z) (a e : ℕ) (v : Bool) (is : v ≡ not (ltb a e && leb e c.tSize)) (h : v ≡ false) where
  pub start_fits : a + 1 < suc largest_number
  start_fits = omega (arith, inside_both c.tSize a e v is h, ok.t_most)

  pub start_small : a + 1 ≤ largest_position
  start_small = omega (arith, inside_both c.tSize a e v is h, ok.t_most)

  pub end_small : e ≤ largest_position
  end_small = omega (arith, inside_last c.tSize a e v is h, ok.t_most)

-- the block that halving finds
module _ (c : Chain) (t q z : List ℕ) (ok : Ready c t q z) (p r : ℕ) (b : LastBelow t c.blockCount p r) where
  pub found_few : r < block_limit
  found_few = omega (arith, b.inside, few c t q z ok)

  pub found_end : get_or t r 0 + get_or z r 0 < suc largest_number
  found_end = omega (arith, ok.t_block r b.inside, ok.t_inside, ok.t_most)

-- and by the columns of a batch
module _ (c : Chain) (t q z xs ys : List ℕ) (x : Indexed c t q z xs ys) (a e : ℕ) (v : Bool) (is : v ≡ not (ltb a e && leb e c.tSize)) (h : v ≡ false) where
  pub quick_start : (r : ℕ) → LastBelow xs block_limit (a + 1) r → LastBelow t c.blockCount (a + 1) r
  quick_start r b = laid_below c t q z x.ready xs x.laid (a + 1) r (start_small c t q z x.ready a e v is h) b

  pub quick_end : (r : ℕ) → LastBelow xs block_limit e r → LastBelow t c.blockCount e r
  quick_end r b = laid_below c t q z x.ready xs x.laid e r (end_small c t q z x.ready a e v is h) b

pub layable : (c : Chain) (t q z : List ℕ) → Ready c t q z → Layable c.blockCount t
layable c t q z ok = record { few = few c t q z ok; wide = ok.wide.targets }

pub indexed_rise : (c : Chain) (t q z xs ys : List ℕ) → Indexed c t q z xs ys → Rising xs block_limit
indexed_rise c t q z xs ys x = laid_rise c t q z x.ready xs x.laid

pub reached_found : (c : Chain) (rows : List Row) (a e : ℕ) (r : Reach) → Reached c.qSize a e (pairs c rows) r → Found c rows a e r
reached_found c rows a e r h = record { reached = λ _. h; fits = h.fits }

-- ---- the loops
-- sums so far
pub sum_more : (zs ys : List ℕ) (i s : ℕ) → i < length ys → ((k : ℕ) → k < i → get_or ys k 0 ≡ sizes_before zs k) → s ≡ sizes_before zs i
    → (k : ℕ) → k < i + 1 → get_or (set ys i s) k 0 ≡ sizes_before zs k
sum_more zs ys i s h f e k m = either i k _
    (λ n. let d : k ≡ i = omega arith in rw d (get_or-set_same ys i s 0 h ∙ e))
    (λ n. get_or-set_other ys i k s 0 (λ d. omega arith) ∙ f k n)

pub sum_next : (zs : List ℕ) (i s : ℕ) → i < length zs → s ≡ sizes_before zs i → s + get_or zs i 0 ≡ sizes_before zs (i + 1)
sum_next zs i s h e = let d : i + 1 ≡ suc i = omega arith in rw d (omega (arith, sizes_next zs i h))

pub sum_fits : (n : ℕ) (zs : List ℕ) → Summable n zs → (i s : ℕ) → i < n → s ≡ sizes_before zs i → s + get_or zs i 0 < suc largest_number
sum_fits n zs able i s h e = omega (arith, sizes_next zs i (omega (arith, able.wide)), able.fits (suc i) (omega arith))

-- the sizes of blocks i to k − 1 so far
pub from_none : (zs : List ℕ) (i : ℕ) → SizesFrom zs i i 0
from_none zs i = record { is = omega arith }

pub from_more : (zs : List ℕ) (i k n : ℕ) → k < length zs → SizesFrom zs i k n → SizesFrom zs i (k + 1) (n + get_or zs k 0)
from_more zs i k n h s = let d : k + 1 ≡ suc k = omega arith in record { is = rw d (omega (arith, sizes_next zs k h, s.is)) }

pub from_fits : (zs : List ℕ) (i j k n : ℕ) → Summable j zs → k < j → SizesFrom zs i k n → n + get_or zs k 0 < suc largest_number
from_fits zs i j k n able h s = omega (arith, s.is, sizes_next zs k (omega (arith, able.wide)), able.fits (suc k) (omega arith))

pub from_done : (zs : List ℕ) (i j k n : ℕ) → k ≤ j → j ≤ k → SizesFrom zs i k n → SizesFrom zs i j n
from_done zs i j k n h l s = let e : j ≡ k = omega arith in rw e s

-- a step of halving: the place found lies from low on, before low + width
pub record Halving (xs : List ℕ) (n p low width : ℕ) : Type 0 where
  pub some : 1 ≤ width
  pub room : low + width ≤ n
  pub below : 1 ≤ low → get_or xs low 0 < p
  pub past : (k : ℕ) → low + width ≤ k → k < n → p ≤ get_or xs k 0

pub below_is : (t p : ℕ) → t ≤ largest_position → p ≤ largest_position → (p + largest_position - t) / (largest_position + 1) % 2 ≡ one (ltb t p)
below_is t p h k = either p t _
    (λ l. rw (le-ltb t p l) (omega arith))
    (λ l. rw (lt-ltb t p l) (omega arith))

pub halving_all : (xs : List ℕ) (n p : ℕ) → Rising xs n → Halving xs n p 0 n
halving_all xs n p r = record { some = r.some; room = omega arith; below = λ l. absurd (omega arith); past = λ k l m. absurd (omega arith) }

pub halving_step : (xs : List ℕ) (n p low width b : ℕ) → Rising xs n → 1 < width → Halving xs n p low width → b ≡ one (ltb (get_or xs (low + width / 2) 0) p)
    → Halving xs n p (low + width / 2 * b) (width - width / 2)
halving_step xs n p low width b rise h v e = rw e (go (ltb (get_or xs (low + width / 2) 0) p) refl)
  where
    go : (u : Bool) → ltb (get_or xs (low + width / 2) 0) p ≡ u → Halving xs n p (low + width / 2 * one u) (width - width / 2)
    go true k =
        let d : low + width / 2 * 1 ≡ low + width / 2 = omega arith in
        let l = v.room in
        rw d (record { some = omega arith; room = omega arith; below = λ _. ltb-true (get_or xs (low + width / 2) 0) p k; past = λ i m o. v.past i (omega arith) o })
    go false k =
        let d : low + width / 2 * 0 ≡ low = omega arith in
        let l = v.room in
        rw d (record { some = omega arith; room = omega arith; below = v.below; past = λ i m o. omega (arith, ltb-false (get_or xs (low + width / 2) 0) p k, rise.rises (low + width / 2) i (omega arith) o) })

one_most : (b : Bool) → one b ≤ 1
one_most true = omega arith
one_most false = omega arith

times_most : (h x : ℕ) → x ≤ 1 → h * x ≤ h
times_most h zero k = omega arith
times_most h (suc zero) k = omega arith
times_most h (suc (suc x)) k = absurd (omega arith)

module _ (xs : List ℕ) (n p low width : ℕ) (rise : Rising xs n) (h : 1 < width) (v : Halving xs n p low width) where
  pub halving_mid : low + width / 2 < length xs
  halving_mid = omega (arith, v.room, rise.wide)

  pub halving_small : p ≤ largest_position → (get_or xs (low + width / 2) 0 ≤ largest_position) × (p ≤ largest_position)
  halving_small k = (rise.small (low + width / 2) (omega (arith, v.room)), k)

  pub halving_low : (b : ℕ) → b ≡ one (ltb (get_or xs (low + width / 2) 0) p) → width / 2 * b ≤ width
  halving_low b e = let m : b ≤ 1 = rw e (one_most (ltb (get_or xs (low + width / 2) 0) p)) in omega (arith, times_most (width / 2) b m)

pub halving_done : (xs : List ℕ) (n p low width : ℕ) → width ≤ 1 → Halving xs n p low width → LastBelow xs n p low
halving_done xs n p low width h v = record { inside = omega (arith, v.some, v.room); below = v.below; past = λ k l m. v.past k (omega (arith, v.some)) m }
