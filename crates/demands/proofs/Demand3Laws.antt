-- Demand 3 holds. Assumes nothing.
use mathlib.Core.Path.{◌≡◌, refl, sym, ap, ◌∙◌}
use mathlib.Core.Bool.{Bool, true, false}
use mathlib.Core.Logic.{◌↔◌}
use mathlib.Core.List.{List, [], ◌++◌, map}
use Prim.Native.Nat.{ℕ, ◌≤◌, ◌<◌}
use native.Mathlib.Omega.{arith}
use lib.ListN.{length, take, drop, get_or}
use lib.Seq.{take-append_seam}
use borrow.Author.Tests.{lt-leb, le-leb}
use Rattle.std.specs.Prelude.{Ok, Err, Some, None, Result, Option, ⊤}
use Rattle.ledger.specs.Refusals.{without_text}
use Rattle.ledger.specs.declared.Row.{Row}
use Rattle.ledger.specs.declared.Reason.TheVariants.{NoRoom}
use Rattle.chain.specs.declared.Chain.{Chain}
use Rattle.chain.specs.Records.{chain_targets, chain_queries, chain_sizes, chain_rows}
use Rattle.chain.specs.Write.{record_check}
use Rattle.chain_laws.proofs.ValidLaws.{accepted_valid}
use Rattle.table_chain.specs.Rows.{RowsRead}
use Rattle.table_chain.proofs.RowLaws.{chain_reads}
use Rattle.table_chain.proofs.TableLaws.{left_valid}
use Rattle.lift.specs.Accepted.{used, accepted}
use Rattle.lift.specs.Pairs.{pairs, partner_of, is_partner, stands}
use Rattle.lift.proofs.RunLaws.{either}
use Rattle.lift.proofs.AcceptLaws.{table_accepted}
use Rattle.ledger.proofs.Laws.{opposite_twice, letter_determines}
use Rattle.ledger.specs.declared.Refusal.{Refusal}
use Rattle.lift.proofs.ConversionLaws.{converts_twice}
use Rattle.lift.proofs.PairLaws.{found_mem}
use Rattle.lift.proofs.PositionLaws.{lifts_exactly, one_partner, pair_found, pair_inside}
use Rattle.region.specs.declared.Region.{Region}
use Rattle.region.specs.Regions.{lift_region}
use Rattle.region.specs.declared.Tally.{Tally}
use Rattle.region.specs.Tallies.{tally_step}
use Rattle.region.specs.Batches.{answer_row, sent_as, batch_check}
use Rattle.region.proofs.BatchLaws.{batch_row, batch_rest, batch_many, batch_tally, batch_left}
use Rattle.region.proofs.RegionLaws.{region_lifted_lem, lifted_length, region_inside, region_holds, region_smallest}
use Rattle.turn.specs.Turns.{turned, turned_rows}
use Rattle.turn.proofs.TurnLaws.{turns, Turning, turning}
use Rattle.table_turn.specs.Turns.{table_after}
use Rattle.table_turn.proofs.TableLaws.{rows_turning}
use Rattle.table_lift.proofs.TableLaws.{calls_sums, singles_sent}
use Rattle.table_lift.specs.Lifts.{BatchLifted}
use Rattle.demands.specs.Chain.{ChainSpells}
use Rattle.demands.specs.Demand3.{InPair, Turns, RegionCounts, BatchRows, Demand3}
use Rattle.demands.proofs.RowLaws.{read_count, front_rows, holds_if}
use Rattle.demands.proofs.RefusalLaws.{position_refused, region_refused, turn_refused, tally_refused}
use Rattle.demands.proofs.ChainDemand2.{spelt_check, spelt_rows}

-- ---- the chains that demand 2 accepts
pub spelled_accepted : (s : List ℕ) (c : Chain) (rows : List Row) → ChainSpells s c rows → accepted c rows ≡ true
spelled_accepted s c rows p =
    rw (spelt_rows s c rows p) (sym (table_accepted c (chain_targets s c) (chain_queries s c) (chain_sizes s c)) ∙ accepted_valid s c (spelt_check s c rows p))

read_accepted : (s : List ℕ) (before after : List Row) (c : Chain) → RowsRead s before after (Ok c) → accepted c after ≡ true
unfolding accepted record_check
read_accepted s before after c h = holds_if _ (left_valid s c before after h)

read_used : (s : List ℕ) (before after : List Row) (c : Chain) (rows : List Row) → RowsRead s before after (Ok c) → ChainSpells s c rows → used c after ≡ rows
read_used s before after c rows h p =
    let n = read_count (chain_reads s) c (spelt_check s c rows p) in
    let e : c.blockCount ≡ length rows = sym (ap length (spelt_rows s c rows p) ∙ n) in
    ap (take c.blockCount) (front_rows rows (chain_rows s c) before after c.blockCount (spelt_rows s c rows p) n h.rows)
    ∙ ap (λ (k : ℕ). take k (rows ++ drop (length rows) before)) e ∙ take-append_seam rows (drop (length rows) before)

-- ---- what counts as kept is what stands in a pair
stands_exactly : (c : Chain) (rows : List Row) → accepted c rows ≡ true → (p : ℕ) → (stands p (pairs c rows) ≡ true) ↔ ((q : ℕ) × InPair c rows p q)
stands_exactly c rows ok p = (go (partner_of p (pairs c rows)) refl, λ w. ap is_partner (pair_found c rows ok p w.0 w.1))
  where
    go : (x : Option ℕ) → partner_of p (pairs c rows) ≡ x → is_partner (partner_of p (pairs c rows)) ≡ true → (q : ℕ) × InPair c rows p q
    go None e h = absurd (let w : ◌≡◌ {A = Bool} false true = rw e at h in let z : ◌≡◌ {A = ℕ} 0 1 = cc in omega arith)
    go (Some q) e h = (q, found_mem p q (pairs c rows) e)

turned_count : (c : Chain) → (turned c).blockCount ≡ c.blockCount
unfolding turned
turned_count c = refl

-- what a turn leaves, by the laws of `turn`
turns_of : (c : Chain) (rows : List Row) (d : Chain) (rows' : List Row) → Turning c rows d rows' → Turns c rows d rows'
turns_of c rows d rows' t =
    let count : d.blockCount ≡ c.blockCount = sym (turned_count d) ∙ ap (λ (x : Chain). x.blockCount) t.restored in
    record {
      was_accepted = t.was_accepted;
      is_accepted = t.is_accepted;
      pairs_plus = t.pairs_plus;
      pairs_minus = t.pairs_minus;
      query_converted = t.query_converted;
      target_converted = t.target_converted;
      lifts_back = λ p q e. t.lifts_back p q _ e;
      restored = λ lent left x k room.
          let e : x ≡ Ok c = k.is ∙ turns d rows' (length lent) t.is_accepted (rw count room) ∙ ap Ok t.restored in
          (e, k.table ∙ ap (λ (y : Result Chain Refusal). table_after y (turned_rows d rows') lent) e ∙ ap (λ (l : List Row). l ++ drop c.blockCount lent) t.restored_rows);
    }

region_counts : (c : Chain) (rows : List Row) (a e : ℕ) (r : Region) → lift_region c rows a e ≡ Ok r → RegionCounts c rows a e r
region_counts c rows a e r h =
    let w = region_lifted_lem c rows a e r h in
    record {
      is_kept = w.is_kept;
      is_dropped = w.is_dropped;
      make_up = lifted_length c rows a e r h;
      in_query = region_inside c rows a e r h;
      holds_all = region_holds c rows a e r h;
      smallest = region_smallest c rows a e r h;
    }

-- a batch, by the single calls
module _ (t u : Tally) (c : Chain) (rows : List Row) (regions before after : List (List ℕ)) (x : Result ⊤ Refusal) (h : BatchLifted t c rows regions before u after x) where
  refuses : length before < length regions → x ≡ Err (without_text NoRoom)
  unfolding batch_check
  refuses k = rw (lt-leb (length regions) (length before) k) at h.check

  holds : length regions ≤ length before → x ≡ Ok tt
  unfolding batch_check
  holds k = rw (le-leb (length regions) (length before) k) at h.check

  eleven_if : x ≡ Err (without_text NoRoom) → length before < length regions
  eleven_if e = either (length regions) (length before) _ (λ k. absurd (let w = sym (holds k) ∙ e in let z : ◌≡◌ {A = ℕ} 0 1 = cc in omega arith)) (λ k. k)

  holds_only : x ≡ Ok tt → length regions ≤ length before
  holds_only e = either (length regions) (length before) _ (λ k. k) (λ k. absurd (let w = sym (refuses k) ∙ e in let z : ◌≡◌ {A = ℕ} 0 1 = cc in omega arith))

  batch_rows : BatchRows t c rows regions before after u x
  batch_rows = record {
    eleven = (eleven_if, refuses);
    answered = (holds_only, holds);
    left = λ k. let w = batch_left t c rows regions before after _ h k in (w.1, w.0);
    row_is = λ k i l v w y p q.
        batch_row t c rows regions before after _ h k i l
        ∙ ap (λ (z : Tally). answer_row (tally_step z c rows (get_or (get_or regions i []) 0 0) (get_or (get_or regions i []) 1 0)).answer) (sym (singles_sent t v (map (sent_as c rows) (take i regions)) p))
        ∙ ap answer_row (sym q.is);
    rest = batch_rest t c rows regions before after _ h;
    many = batch_many t c rows regions before after _ h;
    tally_is = λ k v p. batch_tally t c rows regions before after _ h k ∙ sym (singles_sent t v (map (sent_as c rows) regions) p);
  }

-- DEMAND 3
pub demand3 : Demand3
demand3 = record {
  strands = record { opposite_twice = opposite_twice; letter_tells = letter_determines; converts_twice = converts_twice };
  spelled_accepted = spelled_accepted;
  read_accepted = read_accepted;
  read_rows = read_used;
  positions = λ c rows ok. record {
    lifts_exactly = lifts_exactly c rows ok;
    one_partner = one_partner c rows ok;
    both_inside = pair_inside c rows ok;
    stands_exactly = stands_exactly c rows ok;
  };
  position_refused = position_refused;
  turn_answers = λ c rows before after x w ok room. w.is ∙ turns c rows (length before) ok room;
  turn_refused = turn_refused;
  turns = λ c rows before after d w. turns_of c rows d after (rows_turning c rows before after d w);
  turns_slices = λ c rows ts qs zs ts' qs' zs' d w. turns_of c rows d _ (turning c rows ts qs zs ts' qs' zs' d w);
  regions = region_counts;
  region_refused = region_refused;
  tally_refused = tally_refused;
  batch_rows = batch_rows;
  every_call = calls_sums;
}
