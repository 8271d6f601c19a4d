-- DEMAND 3, sentence by sentence: what lifting, turning, region counts and batch sums are by the list of base pairs, for every accepted chain.
use Rattle.std.specs.Prelude.{ℕ, ◌+◌, ◌-◌, ◌≤◌, ◌<◌, ◌≡◌, true, false, ◌↔◌, length, take, drop, get_or, pos, ◌-ℤ◌, Ok, Err, Result, ⊤}
use mathlib.Core.List.{List, [], ◌++◌, map, reverse, Memᴰ}
use Rattle.ledger.specs.Refusals.{without_text}
use Rattle.ledger.specs.declared.Row.{Row}
use Rattle.ledger.specs.Limits.{tally_limit}
use Rattle.ledger.specs.declared.Strand.{Strand}
use Rattle.ledger.specs.declared.Strand.TheVariants.{Plus, Minus}
use Rattle.ledger.specs.Strands.{strand_opposite, strand_letter}
use Rattle.blocks.specs.Rows.{table_of}
use Rattle.ledger.specs.declared.Reason.TheVariants.{NumberOutOfRange, BlockRules, CountsDisagree, NoRoom, NoPair, OutsideTarget}
use Rattle.ledger.specs.declared.Refusal.{Refusal}
use Rattle.chain.specs.declared.Chain.{Chain}
use Rattle.lift.specs.declared.Span.{Span}
use Rattle.lift.specs.Conversion.{converted}
use Rattle.lift.specs.Accepted.{used, accepted}
use Rattle.lift.specs.Pairs.{pair, pairs, stands}
use Rattle.lift.specs.Positions.{not_lifted, lift_position}
use Rattle.region.specs.declared.Region.{Region}
use Rattle.region.specs.Regions.{kept, dropped, lift_region}
use Rattle.region.specs.Regions as ofRegions
use Rattle.region.specs.declared.Tally.{Tally}
use Rattle.region.specs.Tallies.{good_tally, sums, zero_tally}
use Rattle.region.specs.Batches.{answer_row, sent_as, Call, single, sent_by_all}
use Rattle.turn.specs.Turns.{swap_pair, turned, not_turned, turn, TurnedInto}
use Rattle.table_chain.specs.Rows.{RowsRead}
use Rattle.table_lift.specs.Lifts.{RegionTallied, BatchLifted, Calls}
use Rattle.table_turn.specs.Turns.{RowsTurned}
use Rattle.demands.specs.Chain.{ChainSpells}

-- a target base stands in a pair, and in none
abbrev pub InPair : Chain → List Row → ℕ → ℕ → Type 0
InPair c rows p q = Memᴰ (pair p q) (pairs c rows)

abbrev pub InNone : Chain → List Row → ℕ → Type 0
InNone c rows p = (q : ℕ) → InPair c rows p q → ⊥

-- inside the target
abbrev pub Inside : Chain → ℕ → ℕ → Type 0
Inside c a e = (a < e) × (e ≤ c.tSize)

-- a position inside the target sequence lifts exactly when it stands in a pair, and then to its partner
pub record Positions (c : Chain) (rows : List Row) : Type 0 where
  pub lifts_exactly : (p q : ℕ) → (lift_position c rows p ≡ Ok (q, pos q -ℤ pos p)) ↔ InPair c rows p q
  pub one_partner : (p q q' : ℕ) → InPair c rows p q → InPair c rows p q' → q ≡ q'
  pub both_inside : (p q : ℕ) → InPair c rows p q → (p < c.tSize) × (q < c.qSize)
  -- what counts as kept is what stands in a pair
  pub stands_exactly : (p : ℕ) → (stands p (pairs c rows) ≡ true) ↔ ((q : ℕ) × InPair c rows p q)

-- each refusal exactly in its case: 9 where record and rows are no accepted chain, then 13 where it is not inside the target, then 12 where nothing of it stands in a pair
pub record PositionRefused (c : Chain) (rows : List Row) (p : ℕ) : Type 0 where
  pub nine : (lift_position c rows p ≡ not_lifted BlockRules) ↔ (accepted c rows ≡ false)
  pub thirteen : (lift_position c rows p ≡ not_lifted OutsideTarget) ↔ ((accepted c rows ≡ true) × (c.tSize ≤ p))
  pub twelve : (lift_position c rows p ≡ not_lifted NoPair) ↔ ((accepted c rows ≡ true) × (p < c.tSize) × InNone c rows p)

pub record RegionRefused (c : Chain) (rows : List Row) (a e : ℕ) : Type 0 where
  pub nine : (lift_region c rows a e ≡ ofRegions.not_lifted BlockRules) ↔ (accepted c rows ≡ false)
  pub thirteen : (lift_region c rows a e ≡ ofRegions.not_lifted OutsideTarget) ↔ ((accepted c rows ≡ true) × (Inside c a e → ⊥))
  pub twelve : (lift_region c rows a e ≡ ofRegions.not_lifted NoPair) ↔ ((accepted c rows ≡ true) × Inside c a e × ((p : ℕ) → a ≤ p → p < e → InNone c rows p))

-- a turn: 9, then 11 where there is too little room
pub record TurnRefused (c : Chain) (rows : List Row) (room : ℕ) : Type 0 where
  pub nine : (turn c rows room ≡ not_turned BlockRules) ↔ (accepted c rows ≡ false)
  pub eleven : (turn c rows room ≡ not_turned NoRoom) ↔ ((accepted c rows ≡ true) × (room < c.blockCount))

-- a region sent with the tally t, whose answer is x: 9, 13, then 10 where the tally is bad, then 5 where asked would pass its limit, then 12; else the answer is the
-- region's own
pub record TallyRefused (t : Tally) (c : Chain) (rows : List Row) (a e : ℕ) (x : Result Region Refusal) : Type 0 where
  pub nine : (x ≡ ofRegions.not_lifted BlockRules) ↔ (accepted c rows ≡ false)
  pub thirteen : (x ≡ ofRegions.not_lifted OutsideTarget) ↔ ((accepted c rows ≡ true) × (Inside c a e → ⊥))
  pub ten : (x ≡ ofRegions.not_lifted CountsDisagree) ↔ ((accepted c rows ≡ true) × Inside c a e × (good_tally t ≡ false))
  pub five : (x ≡ ofRegions.not_lifted NumberOutOfRange) ↔ ((accepted c rows ≡ true) × Inside c a e × (good_tally t ≡ true) × (tally_limit < t.asked + (e - a)))
  pub twelve : (x ≡ ofRegions.not_lifted NoPair)
      ↔ ((accepted c rows ≡ true) × Inside c a e × (good_tally t ≡ true) × (t.asked + (e - a) ≤ tally_limit) × ((p : ℕ) → a ≤ p → p < e → InNone c rows p))
  pub else : good_tally t ≡ true → t.asked + (e - a) ≤ tally_limit → x ≡ lift_region c rows a e

-- given room for its blocks, the turned chain d with the table rows' has these same pairs with the sides exchanged, so lifting a partner back through it restores the
-- position, and turning twice restores every field and block, at the front of any table that has room
pub record Turns (c : Chain) (rows : List Row) (d : Chain) (rows' : List Row) : Type 0 where
  pub was_accepted : accepted c rows ≡ true
  pub is_accepted : accepted d rows' ≡ true
  pub pairs_plus : c.qStrand ≡ Plus → pairs d rows' ≡ map swap_pair (pairs c rows)
  pub pairs_minus : c.qStrand ≡ Minus → pairs d rows' ≡ reverse (map swap_pair (pairs c rows))
  -- with `-` both spans are converted, so that the new target is `+`
  pub query_converted : c.qStrand ≡ Minus → converted c.qStart c.qEnd c.qSize ≡ Ok (record { start = d.tStart; end = d.tEnd })
  pub target_converted : c.qStrand ≡ Minus → converted c.tStart c.tEnd c.tSize ≡ Ok (record { start = d.qStart; end = d.qEnd })
  pub lifts_back : (p q : ℕ) → lift_position c rows p ≡ Ok (q, pos q -ℤ pos p) → lift_position d rows' q ≡ Ok (p, pos p -ℤ pos q)
  pub restored : (before after : List Row) (x : Result Chain Refusal) → RowsTurned d rows' before after x → c.blockCount ≤ length before
      → (x ≡ Ok c) × (after ≡ used c rows ++ drop c.blockCount before)

-- for a nonempty region inside the target, the kept bases are those in a pair and the dropped bases those in none
pub record RegionCounts (c : Chain) (rows : List Row) (a e : ℕ) (r : Region) : Type 0 where
  pub is_kept : r.kept ≡ kept (pairs c rows) a e
  pub is_dropped : r.dropped ≡ dropped (pairs c rows) a e
  pub make_up : r.kept + r.dropped ≡ e - a
  -- the query region lies inside the query, holds every partner, and no smaller one does
  pub in_query : (r.start < r.end) × (r.end ≤ c.qSize)
  pub holds_all : (p q : ℕ) → a ≤ p → p < e → InPair c rows p q → (r.start ≤ q) × (q < r.end)
  pub smallest : (lo hi : ℕ) → ((p q : ℕ) → a ≤ p → p < e → InPair c rows p q → (lo ≤ q) × (q < hi)) → (lo ≤ r.start) × (r.end ≤ hi)

-- the regions of a batch, each a single call
abbrev pub singly : Chain → List Row → List (List ℕ) → List Call
singly c rows regions = map single (map (sent_as c rows) regions)

-- a batch: refused by 11 alone, once and before all else, where there are fewer answer rows than regions, and then nothing moves; else row i is the answer of the single
-- call for region i with the tally v as the regions before it left it, the rows past the regions stay, and the tally is that after the single calls
pub record BatchRows (t : Tally) (c : Chain) (rows : List Row) (regions before after : List (List ℕ)) (u : Tally) (x : Result ⊤ Refusal) : Type 0 where
  pub eleven : (x ≡ Err (without_text NoRoom)) ↔ (length before < length regions)
  pub answered : (x ≡ Ok tt) ↔ (length regions ≤ length before)
  pub left : length before < length regions → (u ≡ t) × (after ≡ before)
  pub row_is : length regions ≤ length before → (i : ℕ) → i < length regions → (v w : Tally) (y : Result Region Refusal) → Calls t (singly c rows (take i regions)) v
      → RegionTallied v c rows (get_or (get_or regions i []) 0 0) (get_or (get_or regions i []) 1 0) w y → get_or after i [] ≡ answer_row y
  pub rest : length regions ≤ length before → drop (length regions) after ≡ drop (length regions) before
  pub many : length after ≡ length before
  pub tally_is : length regions ≤ length before → (v : Tally) → Calls t (singly c rows regions) v → u ≡ v

-- strands: the opposite and the conversion to the other strand undo themselves, and the letter tells the strand
pub record Strands : Type 0 where
  pub opposite_twice : (k : Strand) → strand_opposite (strand_opposite k) ≡ k
  pub letter_tells : (k l : Strand) → strand_letter k ≡ strand_letter l → k ≡ l
  pub converts_twice : (start end size : ℕ) (x : Span) → converted start end size ≡ Ok x → converted x.start x.end size ≡ Ok (record { start = start; end = end })

pub record Demand3 : Type 0 where
  pub strands : Strands
  -- the accepted chains are those of demand 2: what a text spells is one, and what its reader left in a table, with the same rows
  pub spelled_accepted : (s : List ℕ) (c : Chain) (rows : List Row) → ChainSpells s c rows → accepted c rows ≡ true
  pub read_accepted : (s : List ℕ) (before after : List Row) (c : Chain) → RowsRead s before after (Ok c) → accepted c after ≡ true
  pub read_rows : (s : List ℕ) (before after : List Row) (c : Chain) (rows : List Row) → RowsRead s before after (Ok c) → ChainSpells s c rows → used c after ≡ rows
  pub positions : (c : Chain) (rows : List Row) → accepted c rows ≡ true → Positions c rows
  pub position_refused : (c : Chain) (rows : List Row) (p : ℕ) → PositionRefused c rows p
  -- the turn answers, given room; and all of `Turns` holds of the record and the table that it leaves
  pub turn_answers : (c : Chain) (rows before after : List Row) (x : Result Chain Refusal) → RowsTurned c rows before after x → accepted c rows ≡ true → c.blockCount ≤ length before
      → x ≡ Ok (turned c)
  pub turn_refused : (c : Chain) (rows : List Row) (room : ℕ) → TurnRefused c rows room
  pub turns : (c : Chain) (rows before after : List Row) (d : Chain) → RowsTurned c rows before after (Ok d) → Turns c rows d after
  -- and of the three flat slices that it leaves
  pub turns_slices : (c : Chain) (rows : List Row) (ts qs zs ts' qs' zs' : List ℕ) (d : Chain) → TurnedInto c rows ts qs zs ts' qs' zs' (Ok d) → Turns c rows d (table_of ts' qs' zs')
  pub regions : (c : Chain) (rows : List Row) (a e : ℕ) (r : Region) → lift_region c rows a e ≡ Ok r → RegionCounts c rows a e r
  pub region_refused : (c : Chain) (rows : List Row) (a e : ℕ) → RegionRefused c rows a e
  pub tally_refused : (t u : Tally) (c : Chain) (rows : List Row) (a e : ℕ) (x : Result Region Refusal) → RegionTallied t c rows a e u x → TallyRefused t c rows a e x
  -- the rows of a batch, and its refusal
  pub batch_rows : (t u : Tally) (c : Chain) (rows : List Row) (regions before after : List (List ℕ)) (x : Result ⊤ Refusal) → BatchLifted t c rows regions before u after x → BatchRows t c rows regions before after u x
  -- after every list of calls, single regions and batches mixed, each with the record and rows handed in with it and one tally that starts at zero, its fields are the
  -- sums over the regions sent: a single claim about the list, and so of each part of it that was sent so far
  pub every_call : (u : Tally) (xs : List Call) → Calls zero_tally xs u → u ≡ sums (sent_by_all xs)
