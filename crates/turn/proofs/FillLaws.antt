-- The turned rows slice by slice, as the code fills them; and the ways out of `turn_chain`. Assumes nothing.
use mathlib.Core.Path.{◌≡◌, refl, sym, ap, ◌∙◌}
use mathlib.Core.Bool.{Bool, true, false, not}
use mathlib.Core.List.{List, [], ◌++◌, map, append-nil}
use Prim.Native.Nat.{ℕ, zero, suc, ◌+◌, ◌-◌, ◌≤◌, ◌<◌}
use native.Mathlib.Numerals.{add-one}
use native.Mathlib.Omega.{arith}
use lib.ListN.{length, get_or, set, take, drop, length-set, length-map, length-take, drop_of_length-le, get_or-map}
use lib.Seq.{sets, sets-eq, ext_get_or}
use borrow.Author.Tests.{lt-leb, not-true, not-false}
use Rattle.blocks.specs.Strands.{strand_start, strand_end}
use Rattle.ledger.specs.declared.Strand.{Strand}
use Rattle.ledger.specs.declared.Strand.TheVariants.{Plus, Minus, Dot}
use Rattle.ledger.specs.declared.Reason.{Reason}
use Rattle.ledger.specs.declared.Reason.TheVariants.{BlockRules, NoRoom}
use Rattle.ledger.specs.declared.Row.{Row}
use Rattle.ledger.specs.Limits.{largest_position}
use Rattle.blocks.specs.Blocks.{rows_of}
use Rattle.blocks.specs.Rows.{table_of, targets_of, queries_of, sizes_of, no_row, row_at}
use Rattle.blocks.proofs.TableLaws.{taken, taken_length, taken_at}
use Rattle.chain.specs.declared.Chain.{Chain}
use Rattle.lift.specs.Accepted.{accepted, Wide, Ready}
use Rattle.lift.proofs.AcceptLaws.{accepted_rules, accepted_true}
use Rattle.turn.specs.Turns.{turned_rows_on, turned_rows, turned, not_turned, turn, column_after, source_of, list_of, start_at, size_at, Fillable, SpansFit}
use Rattle.turn.proofs.RowLaws.{turned_length, turn_on, turned_at}
use Rattle.turn.proofs.TurnLaws.{turns}
use Rattle.std.specs.Prelude.{Ok, Result}
use Rattle.ledger.specs.declared.Refusal.{Refusal}

-- ---- the leaves
pub start_turned : (k : Strand) (size start end : ℕ) → k ≡ Minus → size - end ≡ strand_start k size start end
start_turned k size start end h = rw h

pub end_turned : (k : Strand) (size start end : ℕ) → k ≡ Minus → size - start ≡ strand_end k size start end
end_turned k size start end h = rw h

pub source_turned : (k : Strand) (n i : ℕ) → k ≡ Minus → n - 1 - i ≡ source_of k n i
source_turned k n i h = rw h

-- ---- a slice in which the first i of n numbers are stored: storing the rest completes it
pub record Filled (f : ℕ → ℕ) (n i : ℕ) (before out : List ℕ) : Type 0 where
  pub to : i ≤ n
  pub long : length out ≡ length before
  pub rest : sets out i (list_of f i (n - i)) ≡ sets before 0 (list_of f 0 n)

pub fill_start : (f : ℕ → ℕ) (n : ℕ) (before : List ℕ) → Filled f n 0 before before
fill_start f n before = record { to = omega arith; long = refl; rest = (let z : n - 0 ≡ n = omega arith in ap (λ (m : ℕ). sets before 0 (list_of f 0 m)) z) }

pub fill_step : (f : ℕ → ℕ) (n i : ℕ) (before out : List ℕ) (v : ℕ) → Filled f n i before out → i < n → v ≡ f i → Filled f n (i + 1) before (set out i v)
unfolding list_of
fill_step f n i before out v w h e =
    let z : suc (n - suc i) ≡ n - i = omega arith in
    record {
      to = omega arith;
      long = length-set out i v ∙ w.long;
      rest = rw (e, add-one i) (ap (λ (m : ℕ). sets out i (list_of f i m)) z ∙ w.rest);
    }

pub fill_end : (f : ℕ → ℕ) (n i : ℕ) (before out : List ℕ) → Filled f n i before out → n ≤ i → out ≡ sets before 0 (list_of f 0 n)
unfolding list_of
fill_end f n i before out w h =
    let z : 0 ≡ n - i = omega arith in ap (λ (m : ℕ). sets out i (list_of f i m)) z ∙ w.rest

pub start_is : (k : Strand) (size n : ℕ) (xs zs : List ℕ) (i j v : ℕ) → j ≡ source_of k n i → v ≡ strand_start k size (get_or xs j 0) (get_or xs j 0 + get_or zs j 0) → v ≡ start_at k size n xs zs i
start_is k size n xs zs i j v e h = rw (← e) h

pub size_is : (k : Strand) (n : ℕ) (zs : List ℕ) (i j : ℕ) → j ≡ source_of k n i → get_or zs j 0 ≡ size_at k n zs i
size_is k n zs i j e = rw (← e)

-- ---- the flat lists of the turned rows
list_length : (f : ℕ → ℕ) (a n : ℕ) → length (list_of f a n) ≡ n
unfolding list_of
list_length f a zero = refl
list_length f a (suc n) = ap suc (list_length f (suc a) n)

-- the first n numbers of a slice are filled: the rest stay
pub fill_front : (f : ℕ → ℕ) (n : ℕ) (before out : List ℕ) → n ≤ length before → out ≡ sets (take n before) 0 (list_of f 0 n) → out ++ drop n before ≡ sets before 0 (list_of f 0 n)
fill_front f n before out h e =
    let l = list_length f 0 n in
    let m : length (take n before) ≡ n = rw length-take (omega arith) in
    let q : 0 + length (list_of f 0 n) ≡ n = omega (arith, l) in
    let z : drop n (take n before) ≡ [] = drop_of_length-le (take n before) (omega arith) in
    let front : out ≡ list_of f 0 n ++ [] = e ∙ sets-eq (list_of f 0 n) (take n before) 0 (omega arith) ∙ rw (q, z) in
    let whole : sets before 0 (list_of f 0 n) ≡ list_of f 0 n ++ drop n before = sets-eq (list_of f 0 n) before 0 (omega arith) ∙ rw q in
    rw (front, append-nil) (sym whole)

list_at : (f : ℕ → ℕ) (a n i : ℕ) → i < n → get_or (list_of f a n) i 0 ≡ f (a + i)
unfolding list_of
list_at f a zero i h = absurd (omega arith)
list_at f a (suc n) zero h = let z : a ≡ a + 0 = omega arith in ap f z
list_at f a (suc n) (suc i) h = let z : suc a + i ≡ a + suc i = omega arith in list_at f (suc a) n i (omega arith) ∙ ap f z

source_below : (k : Strand) (n i : ℕ) → i < n → source_of k n i < n
source_below Plus n i h = h
source_below Minus n i h = omega arith
source_below Dot n i h = h

-- the column g of the turned rows is the list of the numbers f, where each turned row holds them there
column_is : (g : Row → ℕ) → g no_row ≡ 0 → (c : Chain) (ts qs zs : List ℕ) → Wide c.blockCount ts qs zs → (f : ℕ → ℕ)
    → ((i : ℕ) → i < c.blockCount → g (turn_on c.qStrand c.tSize c.qSize (row_at ts qs zs (source_of c.qStrand c.blockCount i))) ≡ f i)
    → map g (turned_rows c (table_of ts qs zs)) ≡ list_of f 0 c.blockCount
unfolding turned_rows
column_is g z c ts qs zs w f e =
    let n = c.blockCount in
    let k = c.qStrand in
    let bs = taken n ts qs zs in
    let rows = turned_rows_on k c.tSize c.qSize bs in
    let m : length bs ≡ n = taken_length n ts qs zs w.targets w.queries w.sizes in
    let l : length (map g rows) ≡ n = length-map rows g ∙ turned_length k c.tSize c.qSize bs ∙ m in
    ext_get_or 0 (map g rows) (list_of f 0 n) (l ∙ sym (list_length f 0 n)) (λ i h.
    let b : i < n = omega arith in
    ap (λ (d : ℕ). get_or (map g rows) i d) (sym z)
    ∙ get_or-map g rows i no_row
    ∙ ap g (turned_at k c.tSize c.qSize n bs m i b ∙ ap (turn_on k c.tSize c.qSize) (taken_at n ts qs zs w.targets w.queries w.sizes (source_of k n i) (source_below k n i b)))
    ∙ e i b
    ∙ sym (list_at f 0 n i b ∙ ap f (let y : 0 + i ≡ i = omega arith in y)))

-- ---- the ways out of `turn_chain`
pub as_before : (r : Result Chain Refusal) (why : Reason) (new before : List ℕ) → r ≡ not_turned why → before ≡ column_after r new before
as_before r why new before e = rw e

module _ (c : Chain) (rows : List Row) (room : ℕ) (u : Bool) (ok : u ≡ accepted c rows) where
  pub turn_bad : (r : Result Chain Refusal) → not u ≡ true → r ≡ not_turned BlockRules → r ≡ turn c rows room
  unfolding turn
  turn_bad r h k = rw (← ok, not-true u h) k

  module _ (h : not u ≡ false) (n : ℕ) (e : n ≡ room) where
    pub turn_full : (r : Result Chain Refusal) → n < c.blockCount → r ≡ not_turned NoRoom → r ≡ turn c rows room
    unfolding turn
    turn_full r l k = rw (← ok, not-false u h, lt-leb c.blockCount room (omega arith)) k

    pub turn_made : c.blockCount ≤ n → (d : Chain) → d ≡ turned c → Ok d ≡ turn c rows room
    turn_made l d k = ap Ok k ∙ sym (turns c rows room (accepted_true c rows u ok h) (omega arith))

-- room in each slice
pub roomy : (n r : ℕ) (ts qs zs : List ℕ) → r ≡ rows_of ts qs zs → n ≤ r → Wide n ts qs zs
roomy n r ts qs zs e h = record { targets = omega arith; queries = omega arith; sizes = omega arith }

-- blocks within a side's span
pub fillable : (size end n : ℕ) (xs zs out : List ℕ) → n ≤ length xs → n ≤ length zs → n ≤ length out → end ≤ size → size ≤ largest_position
    → ((i : ℕ) → i < n → get_or xs i 0 + get_or zs i 0 ≤ end) → Fillable size n xs zs out
fillable size end n xs zs out hx hz ho he hm f = record { starts = hx; sizes = hz; room = ho; most = hm; within = λ i h. omega (arith, f i h) }

pub spans_fit_lem : (c : Chain) (rows : List Row) → accepted c rows ≡ true → SpansFit c
spans_fit_lem c rows e = let r = accepted_rules c rows e in record { tStart = omega arith; tEnd = omega arith; qStart = omega arith; qEnd = omega arith }

module _ (c : Chain) (ts qs zs : List ℕ) (rd : Ready c ts qs zs) (before after : List ℕ) where
  pub targets_made : after ≡ sets before 0 (list_of (start_at c.qStrand c.qSize c.blockCount qs zs) 0 c.blockCount) → after ≡ sets before 0 (targets_of (turned_rows c (table_of ts qs zs)))
  targets_made h = h ∙ ap (sets before 0) (sym (column_is (λ (b : Row). b.target) refl c ts qs zs rd.wide (start_at c.qStrand c.qSize c.blockCount qs zs) (λ i l. refl)))

  pub queries_made : after ≡ sets before 0 (list_of (start_at c.qStrand c.tSize c.blockCount ts zs) 0 c.blockCount) → after ≡ sets before 0 (queries_of (turned_rows c (table_of ts qs zs)))
  queries_made h = h ∙ ap (sets before 0) (sym (column_is (λ (b : Row). b.query) refl c ts qs zs rd.wide (start_at c.qStrand c.tSize c.blockCount ts zs) (λ i l. refl)))

  pub sizes_made : after ≡ sets before 0 (list_of (size_at c.qStrand c.blockCount zs) 0 c.blockCount) → after ≡ sets before 0 (sizes_of (turned_rows c (table_of ts qs zs)))
  sizes_made h = h ∙ ap (sets before 0) (sym (column_is (λ (b : Row). b.size) refl c ts qs zs rd.wide (size_at c.qStrand c.blockCount zs) (λ i l. refl)))

pub record_turned : (c : Chain) (tStart tEnd qStart qEnd : ℕ) → tStart ≡ strand_start c.qStrand c.qSize c.qStart c.qEnd → tEnd ≡ strand_end c.qStrand c.qSize c.qStart c.qEnd
    → qStart ≡ strand_start c.qStrand c.tSize c.tStart c.tEnd → qEnd ≡ strand_end c.qStrand c.tSize c.tStart c.tEnd
    → ◌≡◌ {A = Chain} (record { score = c.score; tName = c.qName; tSize = c.qSize; tStart = tStart; tEnd = tEnd; qName = c.tName; qSize = c.tSize; qStrand = c.qStrand; qStart = qStart; qEnd = qEnd; id = c.id; blockCount = c.blockCount }) (turned c)
unfolding turned
record_turned c tStart tEnd qStart qEnd e1 e2 e3 e4 = λ i. record {
  score = c.score;
  tName = c.qName;
  tSize = c.qSize;
  tStart = e1 i;
  tEnd = e2 i;
  qName = c.tName;
  qSize = c.tSize;
  qStrand = c.qStrand;
  qStart = e3 i;
  qEnd = e4 i;
  id = c.id;
  blockCount = c.blockCount;
}
