-- Demand 3 on turned chains: the same pairs with the sides exchanged, accepted again, lifted back, and restored by turning twice. Assumes nothing.
use mathlib.Core.Path.{◌≡◌, refl, ap, ◌∙◌}
use mathlib.Core.Bool.{Bool, true, false}
use mathlib.Core.List.Memᴰ
use mathlib.Core.List.{List, [], ◌∷◌, map, reverse, reverse-cons, Memᴰ}
use mathlib.Core.Logic.{⊎_elim}
use Prim.Native.Nat.{ℕ, ◌+◌, ◌-◌, ◌≤◌, ◌<◌}
use native.Mathlib.Omega.{arith}
use lib.ListN.{length, take, length-take, length-map}
use lib.Seq.{sets-eq}
use lib.IntN.{ℤ, pos, ◌-ℤ◌}
use lib.Dec.{leb}
use borrow.Author.Tests.{le-leb, leb-true}
use Rattle.ledger.specs.Refusals.{require}
use Rattle.ledger.specs.declared.Strand.{Strand}
use Rattle.ledger.specs.declared.Strand.TheVariants.{Plus, Minus, Dot}
use Rattle.ledger.specs.declared.Reason.TheVariants.{BlockRules, NoRoom}
use Rattle.ledger.specs.declared.Row.{Row}
use Rattle.blocks.specs.Blocks.{rows_of}
use Rattle.blocks.specs.Rows.{table_of, targets_of, queries_of, sizes_of}
use Rattle.blocks.proofs.TableLaws.{stored_rows_lem}
use Rattle.chain.specs.declared.Chain.{Chain}
use Rattle.lift.specs.Accepted.{accepted, used}
use Rattle.lift.specs.Conversion.{converted}
use Rattle.lift.specs.Pairs.{Pair, pair, pairs}
use Rattle.lift.specs.Positions.{lift_position}
use Rattle.lift.proofs.AcceptLaws.{Rules, accepted_rules, rules_accepted}
use Rattle.lift.proofs.ConversionLaws.{converts}
use Rattle.lift.proofs.PositionLaws.{lifts, lifted_lem}
use Rattle.turn.specs.Turns.{swap_pair, turned_rows_on, turned_rows, turned, not_turned, turn, TurnedInto}
use Rattle.turn.proofs.RowLaws.{pairs_swapped, pairs_turned, placed_swapped, placed_turned, turned_length, on_twice}
use Rattle.std.specs.Prelude.{Ok}

-- the same record with another strand: `on_strand c.qStrand c` is c, so that a law can go by cases on the strand
abbrev on_strand : Strand → Chain → Chain
on_strand k c = record {
  score = c.score;
  tName = c.tName;
  tSize = c.tSize;
  tStart = c.tStart;
  tEnd = c.tEnd;
  qName = c.qName;
  qSize = c.qSize;
  qStrand = k;
  qStart = c.qStart;
  qEnd = c.qEnd;
  id = c.id;
  blockCount = c.blockCount;
}

less_less : (n a e : ℕ) → a < e → e ≤ n → n - e < n - a
less_less n a e h k = omega arith

turned_rules : (k : Strand) (c : Chain) (room n : ℕ) (bs : List Row) → 1 ≤ length bs → Rules (on_strand k c) n bs → c.blockCount ≤ room
    → Rules (turned (on_strand k c)) room (turned_rows_on k c.tSize c.qSize bs)
unfolding turned
turned_rules Dot c room n bs some r h = absurd (r.stranded refl)
turned_rules Plus c room n bs some r h = record {
  some_block = r.some_block;
  few_blocks = r.few_blocks;
  in_table = h;
  t_name_some = r.q_name_some;
  t_name_short = r.q_name_short;
  q_name_some = r.t_name_some;
  q_name_short = r.t_name_short;
  stranded = r.stranded;
  score_range = r.score_range;
  id_range = r.id_range;
  t_most = r.q_most;
  q_most = r.t_most;
  t_span = r.q_span;
  t_inside = r.q_inside;
  q_span = r.t_span;
  q_inside = r.t_inside;
  placed = placed_swapped c.tEnd c.qEnd c.tStart c.qStart bs r.placed;
}
turned_rules Minus c room n bs some r h = record {
  some_block = r.some_block;
  few_blocks = r.few_blocks;
  in_table = h;
  t_name_some = r.q_name_some;
  t_name_short = r.q_name_short;
  q_name_some = r.t_name_some;
  q_name_short = r.t_name_short;
  stranded = r.stranded;
  score_range = r.score_range;
  id_range = r.id_range;
  t_most = r.q_most;
  q_most = r.t_most;
  t_span = less_less c.qSize c.qStart c.qEnd r.q_span r.q_inside;
  t_inside = omega arith;
  q_span = less_less c.tSize c.tStart c.tEnd r.t_span r.t_inside;
  q_inside = omega arith;
  placed = placed_turned c.tSize c.qSize c.tEnd c.qEnd c.tStart c.qStart bs r.t_inside r.q_inside some r.placed;
}

less_twice : (n a : ℕ) → a ≤ n → n - (n - a) ≡ a
less_twice n a h = omega arith

record_twice : (k : Strand) (c : Chain) (n : ℕ) (bs : List Row) → Rules (on_strand k c) n bs → turned (turned (on_strand k c)) ≡ on_strand k c
unfolding turned
record_twice Plus c n bs r = refl
record_twice Dot c n bs r = refl
record_twice Minus c n bs r =
    let t1 = less_twice c.tSize c.tStart (omega arith) in let t2 = less_twice c.tSize c.tEnd r.t_inside in
    let q1 = less_twice c.qSize c.qStart (omega arith) in let q2 = less_twice c.qSize c.qEnd r.q_inside in
    λ i. record {
      score = c.score;
      tName = c.tName;
      tSize = c.tSize;
      tStart = t1 i;
      tEnd = t2 i;
      qName = c.qName;
      qSize = c.qSize;
      qStrand = Minus;
      qStart = q1 i;
      qEnd = q2 i;
      id = c.id;
      blockCount = c.blockCount;
    }

-- ---- standing in a list
mem_map : (x : Pair) (l : List Pair) → Memᴰ x l → Memᴰ (swap_pair x) (map swap_pair l)
mem_map x [] m = absurd (Memᴰ.not-nil m)
mem_map x (y ∷ ys) m = ⊎_elim (λ e. Memᴰ.head (ap swap_pair e)) (λ k. Memᴰ.tail (mem_map x ys k)) (Memᴰ.cases_cons m)

mem_reverse : (x : Pair) (l : List Pair) → Memᴰ x l → Memᴰ x (reverse l)
mem_reverse x [] m = absurd (Memᴰ.not-nil m)
mem_reverse x (y ∷ ys) m = rw (reverse-cons y ys)
    (⊎_elim (λ e. Memᴰ.append_right (reverse ys) (Memᴰ.head e)) (λ k. Memᴰ.append_left (y ∷ []) (mem_reverse x ys k)) (Memᴰ.cases_cons m))

-- ---- the laws of an accepted chain
module _ (c : Chain) (rows : List Row) (ok : accepted c rows ≡ true) where
  rules : Rules c (length rows) (used c rows)
  rules = accepted_rules c rows ok

  -- with `-`, the new spans are the old ones converted
  pub turned_spans : c.qStrand ≡ Minus
      → (converted c.qStart c.qEnd c.qSize ≡ Ok (record { start = (turned c).tStart; end = (turned c).tEnd }))
      × (converted c.tStart c.tEnd c.tSize ≡ Ok (record { start = (turned c).qStart; end = (turned c).qEnd }))
  unfolding turned
  turned_spans e = rw e (converts c.qStart c.qEnd c.qSize rules.q_span rules.q_inside rules.q_most, converts c.tStart c.tEnd c.tSize rules.t_span rules.t_inside rules.t_most)

  -- TURNING TWICE RESTORES every field
  pub turned_twice : turned (turned c) ≡ c
  turned_twice = record_twice c.qStrand c (length rows) (used c rows) rules

  -- and a table that begins with the turned rows
  module _ (rows' : List Row) (room : c.blockCount ≤ length rows') (here : take c.blockCount rows' ≡ turned_rows c rows) where
    -- TURNING TWICE RESTORES every block
    pub rows_twice : turned_rows (turned c) rows' ≡ used c rows
    unfolding turned turned_rows
    rows_twice = rw here (on_twice c.tSize c.qSize c.tEnd c.qEnd rules.t_inside rules.q_inside c.qStrand c.tStart c.qStart (used c rows) rules.placed.run)

    -- THE PAIRS are the same with the sides exchanged
    pub pairs_plus : c.qStrand ≡ Plus → pairs (turned c) rows' ≡ map swap_pair (pairs c rows)
    unfolding pairs turned turned_rows
    pairs_plus e = rw (here, e) (pairs_swapped (used c rows))

    -- and with `-` they stand from the other end
    pub pairs_minus : c.qStrand ≡ Minus → pairs (turned c) rows' ≡ reverse (map swap_pair (pairs c rows))
    unfolding pairs turned turned_rows
    pairs_minus e = rw (here, e) (pairs_turned c.tSize c.qSize c.tEnd c.qEnd rules.t_inside rules.q_inside c.tStart c.qStart (used c rows) rules.placed.run)

    -- THE TURNED CHAIN IS ACCEPTED
    pub turned_accepted : accepted (turned c) rows' ≡ true
    unfolding turned turned_rows
    turned_accepted =
        let l : 1 ≤ length (used c rows) = omega (arith, length-take c.blockCount rows, rules.some_block, rules.in_table) in
        rules_accepted (turned c) rows' (rw here (turned_rules c.qStrand c (length rows') (length rows) (used c rows) l rules room))

    -- a pair of the chain is one of the turned chain, the other way round
    pub exchanged : (p q : ℕ) → Memᴰ (pair p q) (pairs c rows) → Memᴰ (pair q p) (pairs (turned c) rows')
    exchanged p q m = go c.qStrand refl
      where
        go : (k : Strand) → c.qStrand ≡ k → Memᴰ (pair q p) (pairs (turned c) rows')
        go Plus e = rw (pairs_plus e) (mem_map (pair p q) (pairs c rows) m)
        go Minus e = rw (pairs_minus e) (mem_reverse (pair q p) (map swap_pair (pairs c rows)) (mem_map (pair p q) (pairs c rows) m))
        go Dot e = absurd (rules.stranded e)

    -- A PARTNER LIFTS BACK to the position
    pub lifts_back : (p q : ℕ) (d : ℤ) → lift_position c rows p ≡ Ok (q, d) → lift_position (turned c) rows' q ≡ Ok (p, pos p -ℤ pos q)
    lifts_back p q d e = lifts (turned c) rows' turned_accepted q p (exchanged p q (lifted_lem c rows ok p q d e).0)

-- ---- from the function's promise
-- as many rows as the record counts
pub counted_lem : (c : Chain) (rows : List Row) → accepted c rows ≡ true → length (turned_rows c rows) ≡ c.blockCount
unfolding turned_rows
counted_lem c rows ok =
    turned_length c.qStrand c.tSize c.qSize (used c rows)
    ∙ (let z : length (used c rows) ≡ c.blockCount = omega (arith, length-take c.blockCount rows, (accepted_rules c rows ok).in_table) in z)

-- an accepted chain turns where there is room
pub turns : (c : Chain) (rows : List Row) (room : ℕ) → accepted c rows ≡ true → c.blockCount ≤ room → turn c rows room ≡ Ok (turned c)
unfolding turn
turns c rows room ok h = rw (ok, le-leb _ _ h)

-- and what turns is one, with room for it
pub record Turnable (c : Chain) (rows : List Row) (room : ℕ) (d : Chain) : Type 0 where
  pub ok : accepted c rows ≡ true
  pub fits : c.blockCount ≤ room
  pub is : d ≡ turned c

pub turnable : (c : Chain) (rows : List Row) (room : ℕ) (d : Chain) → Ok d ≡ turn c rows room → Turnable c rows room d
unfolding turn
turnable c rows room d e = go (accepted c rows) (leb c.blockCount room) refl refl e
  where
    go : (t u : Bool) → accepted c rows ≡ t → leb c.blockCount room ≡ u → Ok d ≡ require t (not_turned BlockRules) (require u (not_turned NoRoom) (Ok (turned c))) → Turnable c rows room d
    go false u h k l = absurd (let z : ◌≡◌ {A = ℕ} 0 1 = cc in omega arith)
    go true false h k l = absurd (let z : ◌≡◌ {A = ℕ} 0 1 = cc in omega arith)
    go true true h k l = record { ok = h; fits = leb-true _ _ k; is = cc }

module _ (c : Chain) (rows : List Row) (ts qs zs ts' qs' zs' : List ℕ) (d : Chain) (w : TurnedInto c rows ts qs zs ts' qs' zs' (Ok d)) where
  made : Turnable c rows (rows_of ts qs zs) d
  made = turnable c rows (rows_of ts qs zs) d w.is

  column : (g : Row → ℕ) (before : List ℕ) → rows_of ts qs zs ≤ length before → 0 + length (map g (turned_rows c rows)) ≤ length before
  column g before h = omega (arith, length-map (turned_rows c rows) g, counted_lem c rows made.ok, made.fits)

  -- the table that the turn leaves begins with the turned rows
  pub turned_stored : take c.blockCount (table_of ts' qs' zs') ≡ turned_rows c rows
  turned_stored =
      let et = w.targets ∙ sets-eq (targets_of (turned_rows c rows)) ts 0 (column (λ (b : Row). b.target) ts (omega arith)) in
      let eq = w.queries ∙ sets-eq (queries_of (turned_rows c rows)) qs 0 (column (λ (b : Row). b.query) qs (omega arith)) in
      let ez = w.sizes ∙ sets-eq (sizes_of (turned_rows c rows)) zs 0 (column (λ (b : Row). b.size) zs (omega arith)) in
      rw (et, eq, ez) (stored_rows_lem c.blockCount (turned_rows c rows) _ _ _ (counted_lem c rows made.ok))

-- what a turn leaves of a chain: the record d and a table
pub record Turning (c : Chain) (rows : List Row) (d : Chain) (rows' : List Row) : Type 0 where
  pub was_accepted : accepted c rows ≡ true
  pub is_accepted : accepted d rows' ≡ true
  pub pairs_plus : c.qStrand ≡ Plus → pairs d rows' ≡ map swap_pair (pairs c rows)
  pub pairs_minus : c.qStrand ≡ Minus → pairs d rows' ≡ reverse (map swap_pair (pairs c rows))
  pub query_converted : c.qStrand ≡ Minus → converted c.qStart c.qEnd c.qSize ≡ Ok (record { start = d.tStart; end = d.tEnd })
  pub target_converted : c.qStrand ≡ Minus → converted c.tStart c.tEnd c.tSize ≡ Ok (record { start = d.qStart; end = d.qEnd })
  pub lifts_back : (p q : ℕ) (z : ℤ) → lift_position c rows p ≡ Ok (q, z) → lift_position d rows' q ≡ Ok (p, pos p -ℤ pos q)
  pub restored : turned d ≡ c
  pub restored_rows : turned_rows d rows' ≡ used c rows

-- a turn that is not refused, and a table that begins with the turned rows
module _ (c : Chain) (rows : List Row) (room : ℕ) (d : Chain) (m : Turnable c rows room d) (rows' : List Row) (here : take c.blockCount rows' ≡ turned_rows c rows) where
  wide : c.blockCount ≤ length rows'
  wide = omega (arith, length-take c.blockCount rows', ap length here, counted_lem c rows m.ok)

  pub turning_of : Turning c rows d rows'
  turning_of =
      rw m.is (record {
        was_accepted = m.ok;
        is_accepted = turned_accepted c rows m.ok rows' wide here;
        pairs_plus = pairs_plus c rows m.ok rows' wide here;
        pairs_minus = pairs_minus c rows m.ok rows' wide here;
        query_converted = λ e. (turned_spans c rows m.ok e).0;
        target_converted = λ e. (turned_spans c rows m.ok e).1;
        lifts_back = lifts_back c rows m.ok rows' wide here;
        restored = turned_twice c rows m.ok;
        restored_rows = rows_twice c rows m.ok rows' wide here;
      })

-- ALL OF THEM for every turn that is not refused
pub turning : (c : Chain) (rows : List Row) (ts qs zs ts' qs' zs' : List ℕ) (d : Chain) → TurnedInto c rows ts qs zs ts' qs' zs' (Ok d) → Turning c rows d (table_of ts' qs' zs')
turning c rows ts qs zs ts' qs' zs' d w =
    turning_of c rows (rows_of ts qs zs) d (turnable c rows (rows_of ts qs zs) d w.is) (table_of ts' qs' zs') (turned_stored c rows ts qs zs ts' qs' zs' d w)
