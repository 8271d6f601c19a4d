-- From the table of a block line's columns to its numbers. Assumes nothing.
use mathlib.Core.Path.{◌≡◌, refl, sym, ◌∙◌}
use mathlib.Core.Bool.{Bool, true, false, ◌||◌, cond}
use mathlib.Core.List.{List, [], ◌∷◌}
use Prim.Native.Nat.{ℕ, zero, suc, ◌*◌, ◌≤◌}
use native.Mathlib.Omega.{arith}
use lib.ListN.{length, replicate, get_or, take, drop, get_or-eq_default}
use lib.Dec.{eqb}
use borrow.Author.Tests.{eqb-true}
use Rattle.ledger.specs.Limits.{largest_position}
use Rattle.ledger.specs.declared.Reason.TheVariants.{NoRoom}
use Rattle.ledger.specs.declared.Fault.{Fault}
use Rattle.text.specs.Checks.{fault, then_check, words_check}
use Rattle.text.specs.Pieces.{words_of, line_of}
use Rattle.text.specs.Words.{word_count}
use Rattle.text.proofs.CheckLaws.{words_hold}
use Rattle.text.proofs.StageLaws.{goes, went}
use Rattle.kinds.specs.declared.Range.TheVariants.{Coordinate, Size}
use Rattle.kinds.specs.declared.Kind.{Kind}
use Rattle.kinds.specs.declared.Kind.TheVariants.{Number}
use Rattle.kinds.proofs.RangeLaws.{number_spelt}
use Rattle.columns.specs.Columns.{table_of, columns_from, values_from, value_of, then_next, ColumnsWalked}
use Rattle.columns.specs.Spells.{firsts}
use Rattle.columns.proofs.Meant.{Meant}
use Rattle.columns.proofs.SpellsLaws.{columns_mean}
use Rattle.columns.proofs.PlaceLaws.{spelt_at, value_first, values_length}
use Rattle.columns.proofs.TableLaws as table
use Rattle.chain.specs.declared.BlockLine.{BlockLine}
use Rattle.chain.specs.declared.BlockLine.TheVariants.{Last, Gap}
use Rattle.chain.specs.Columns as column
use Rattle.chain.specs.Table.{block_columns}
use Rattle.chain.specs.Records.{line_values, size_at, target_gap, query_gap}
use Rattle.chain.specs.Read.{is_block_count, block_words, limit_check, block_is, block_numbers, block_line}
use Rattle.chain.specs.Steps.{line_check, block_one, block_size, block_target_gap, block_query_gap, LineCounted, NumbersRead, BlockRead}
use Rattle.std.specs.Prelude.{Ok, Err, Result, ⊤}

-- the kinds of a block line's table in the code, and what the first n of them are
abbrev pub block_kinds : List Kind
block_kinds = Number Size ∷ Number Coordinate ∷ Number Coordinate ∷ []

pub front_length : (n : ℕ) → n ≤ column.gap_count → n ≡ length (take n block_kinds)
front_length n h = table.front_length block_kinds (omega arith) n h

pub table_is : (n : ℕ) → n ≤ column.gap_count → table_of (take n block_kinds) ≡ take n block_columns
unfolding block_columns
table_is n h = table.table_is block_kinds (omega arith) n h

-- a good number of words is 1 or 3
pub count_split : (n : ℕ) → is_block_count n ≡ true → (P : Type 0) → (n ≡ column.last_count → P) → (n ≡ column.gap_count → P) → P
count_split n h P a b = go (eqb n column.last_count) (eqb n column.gap_count) refl refl h
  where
    go : (x y : Bool) → eqb n column.last_count ≡ x → eqb n column.gap_count ≡ y → (x || y) ≡ true → P
    go true y e f k = a (eqb-true n column.last_count e)
    go false true e f k = b (eqb-true n column.gap_count f)
    go false false e f k = absurd (let q : ◌≡◌ {A = ℕ} 0 1 = cc in omega arith)

pub count_most : (n : ℕ) → is_block_count n ≡ true → n ≤ column.gap_count
count_most n h = count_split n h (n ≤ column.gap_count) (λ e. omega arith) (λ e. omega arith)

-- the numbers of a line that is read are coordinates
module _ (s : List ℕ) (line e : ℕ) where
  one_low : word_count s line ≡ column.last_count → columns_from (take column.last_count block_columns) 0 s line ≡ Ok e → value_of (values_from (take column.last_count block_columns) 0 s line) column.size ≤ largest_position
  unfolding block_columns
  one_low w read =
      let vs = values_from (take column.last_count block_columns) 0 s line in
      rw (← value_first vs column.size) (number_spelt Size _ _ _ (spelt_at (columns_mean (take column.last_count block_columns) 0 s line e w read) column.size (omega arith))).1

  one_past : columns_from (take column.last_count block_columns) 0 s line ≡ Ok e → (i : ℕ) → 2 ≤ i → get_or (values_from (take column.last_count block_columns) 0 s line) i 0 ≤ largest_position
  unfolding block_columns
  one_past read i h =
      let vs = values_from (take column.last_count block_columns) 0 s line in
      let l : length vs ≡ 2 * length (take column.last_count block_columns) = values_length (take column.last_count block_columns) 0 s line e read in
      let k : length vs ≤ i = omega arith in
      omega (arith, get_or-eq_default vs 0 k)

  module _ (w : word_count s line ≡ column.gap_count) (read : columns_from (take column.gap_count block_columns) 0 s line ≡ Ok e) where
    abbrev ws : List ℕ
    ws = values_from (take column.gap_count block_columns) 0 s line

    three_spells : Meant (take column.gap_count block_columns) 0 (words_of (line_of (drop line s))) (firsts ws)
    unfolding block_columns
    three_spells = columns_mean (take column.gap_count block_columns) 0 s line e w read

    three_size : value_of ws column.size ≤ largest_position
    unfolding block_columns
    three_size = rw (← value_first ws column.size) (number_spelt Size _ _ _ (spelt_at three_spells column.size (omega arith))).1

    three_target : value_of ws column.dt ≤ largest_position
    unfolding block_columns
    three_target = rw (← value_first ws column.dt) (number_spelt Coordinate _ _ _ (spelt_at three_spells column.dt (omega arith))).1

    three_query : value_of ws column.dq ≤ largest_position
    unfolding block_columns
    three_query = rw (← value_first ws column.dq) (number_spelt Coordinate _ _ _ (spelt_at three_spells column.dq (omega arith))).1

module _ (s : List ℕ) (line n e : ℕ) (counted : LineCounted s line n) (read : columns_from (take n block_columns) 0 s line ≡ Ok e) where
  size_low : value_of (values_from (take n block_columns) 0 s line) column.size ≤ largest_position
  size_low =
      count_split n counted.good _
      (λ q. rw q (one_low s line e (sym counted.count ∙ q) (rw q at read)))
      (λ q. rw q (three_size s line e (sym counted.count ∙ q) (rw q at read)))

  target_low : value_of (values_from (take n block_columns) 0 s line) column.dt ≤ largest_position
  target_low =
      count_split n counted.good _
      (λ q. rw q (one_past s line e (rw q at read) (2 * column.dt) (omega arith)))
      (λ q. rw q (three_target s line e (sym counted.count ∙ q) (rw q at read)))

  query_low : value_of (values_from (take n block_columns) 0 s line) column.dq ≤ largest_position
  query_low =
      count_split n counted.good _
      (λ q. rw q (one_past s line e (rw q at read) (2 * column.dq) (omega arith)))
      (λ q. rw q (three_query s line e (sym counted.count ∙ q) (rw q at read)))

-- the columns of a block line
module _ (s : List ℕ) (line n : ℕ) (counted : LineCounted s line n) where
  pub numbers_few : n ≤ column.gap_count
  numbers_few = count_most n counted.good

  pub numbers_length : n ≡ length (take n block_kinds)
  numbers_length = front_length n numbers_few

module _ (s : List ℕ) (line n : ℕ) (counted : LineCounted s line n) (b' d d' : List ℕ) (x : Result ℕ Fault) (read : ColumnsWalked (table_of (take n block_kinds)) s line (replicate (2 * column.gap_count) 0) b' d d' x) where
  few : n ≤ column.gap_count
  few = count_most n counted.good

  read_is : x ≡ columns_from (take n block_columns) 0 s line
  unfolding block_columns
  read_is = table.read_is block_kinds (omega arith) n few s line (2 * column.gap_count) (omega (arith, few)) b' d d' x read

  pub numbers_refused : (y : Fault) → x ≡ Err y → NumbersRead s line n (Err y)
  unfolding block_numbers
  numbers_refused y q =
      let z : columns_from (take n block_columns) 0 s line ≡ Err y = sym read_is ∙ q in
      record { is = rw z; size = omega arith; target_gap = omega arith; query_gap = omega arith }

  module _ (e : ℕ) (q : x ≡ Ok e) where
    next : columns_from (take n block_columns) 0 s line ≡ Ok e
    next = sym read_is ∙ q

    values_same : (i : ℕ) → get_or b' i 0 ≡ get_or (values_from (take n block_columns) 0 s line) i 0
    unfolding block_columns
    values_same = table.values_same block_kinds (omega arith) n few s line (2 * column.gap_count) (omega (arith, few)) b' d d' x read e q

    block_same : block_is n b' ≡ block_is n (values_from (take n block_columns) 0 s line)
    block_same = rw (values_same (2 * column.size), values_same (2 * column.dt), values_same (2 * column.dq))

    abbrev us : List ℕ
    us = values_from (take n block_columns) 0 s line

    size_in : (t : Bool) → value_of us column.size ≤ largest_position → block_size (cond t (Ok (Last (value_of us column.size))) (Ok (Gap (value_of us column.size) (value_of us column.dt) (value_of us column.dq)))) ≤ largest_position
    size_in true h = h
    size_in false h = h

    target_in : (t : Bool) → value_of us column.dt ≤ largest_position → block_target_gap (cond t (Ok (Last (value_of us column.size))) (Ok (Gap (value_of us column.size) (value_of us column.dt) (value_of us column.dq)))) ≤ largest_position
    target_in true h = omega arith
    target_in false h = h

    query_in : (t : Bool) → value_of us column.dq ≤ largest_position → block_query_gap (cond t (Ok (Last (value_of us column.size))) (Ok (Gap (value_of us column.size) (value_of us column.dt) (value_of us column.dq)))) ≤ largest_position
    query_in true h = omega arith
    query_in false h = h

    pub numbers_read_lem : (r : Result BlockLine Fault) → r ≡ block_is n b' → NumbersRead s line n r
    unfolding block_numbers
    numbers_read_lem r er =
        let p : r ≡ block_is n us = er ∙ block_same in
        record {
          is = rw next p;
          size = rw p (size_in (eqb n column.last_count) (size_low s line n e counted next));
          target_gap = rw p (target_in (eqb n column.last_count) (target_low s line n e counted next));
          query_gap = rw p (query_in (eqb n column.last_count) (query_low s line n e counted next));
        }

pub words_good : (s : List ℕ) (line n : ℕ) → block_words s line n ≡ Ok tt → is_block_count n ≡ true
unfolding block_words
words_good s line n e = (words_hold s line n column.gap_count (is_block_count n) e).1

-- the limit
pub limit_reached : (line k : ℕ) → k ≡ 0 → fault NoRoom line ≡ limit_check line k
unfolding limit_check
limit_reached line k e = rw e

pub limit_ahead : (line k : ℕ) → (k ≡ 0 → ⊥) → Ok tt ≡ limit_check line k
unfolding limit_check
limit_ahead line zero y = absurd (y refl)
limit_ahead line (suc k) y = refl

some_left : (line k : ℕ) → limit_check line k ≡ Ok tt → 1 ≤ k
unfolding limit_check
some_left line zero e = absurd (let q : ◌≡◌ {A = ℕ} 0 1 = cc in omega arith)
some_left line (suc k) e = omega arith

-- two stages, the first fault of which counts
both_pass : (a b : Result ⊤ Fault) → then_check Err a b ≡ Ok tt → (a ≡ Ok tt) × (b ≡ Ok tt)
both_pass a b = went Err a b (Ok tt) (λ x e. let q : ◌≡◌ {A = ℕ} 0 1 = cc in omega arith)

one_faulty : (a b : Result ⊤ Fault) (x : Fault) (rest : Result BlockLine Fault) → then_check Err a b ≡ Err x → Err x ≡ then_check Err a (then_check Err b rest)
one_faulty (Ok tt) b x rest e = rw e
one_faulty (Err y) b x rest e = cc

pub first_passes : (a b : Result ⊤ Fault) → a ≡ Ok tt → b ≡ then_check Err a b
first_passes a b e = goes Err a b b e refl

pub line_checked : (s : List ℕ) (line n k : ℕ) (good : Bool) (a b r : Result ⊤ Fault) → a ≡ limit_check line k → good ≡ is_block_count n → b ≡ words_check s line n column.gap_count good → r ≡ then_check Err a b → r ≡ line_check s line n k
unfolding line_check block_words
line_checked s line n k good a b r ea eg eb er = rw (er, ea, eb, eg)

one_most : (r : Result BlockLine Fault) → block_one r ≤ 1
one_most (Ok (Last z)) = omega arith
one_most (Ok (Gap z dt dq)) = omega arith
one_most (Err x) = omega arith

-- the block line
module _ (s : List ℕ) (line n k : ℕ) (en : n ≡ word_count s line) (c : Result ⊤ Fault) (ec : c ≡ line_check s line n k) where
  held : c ≡ Ok tt → (limit_check line k ≡ Ok tt) × (block_words s line n ≡ Ok tt)
  unfolding line_check
  held q = both_pass (limit_check line k) (block_words s line n) (sym ec ∙ q)

  pub line_counted : c ≡ Ok tt → LineCounted s line n
  line_counted q = record { count = en; good = words_good s line n (held q).1 }

  pub line_refused : (x : Fault) → c ≡ Err x → BlockRead s line k (Err x)
  unfolding block_line line_check
  line_refused x q = record {
    is = rw (← en) (one_faulty (limit_check line k) (block_words s line n) x (block_numbers s line n) (sym ec ∙ q));
    room = omega arith;
    size = omega arith;
    target_gap = omega arith;
    query_gap = omega arith;
  }

  pub line_read_lem : (r : Result BlockLine Fault) → c ≡ Ok tt → NumbersRead s line n r → BlockRead s line k r
  unfolding block_line
  line_read_lem r q h = record {
    is = rw (← en, (held q).0, (held q).1) h.is;
    room = omega (arith, one_most r, some_left line k (held q).0);
    size = h.size;
    target_gap = h.target_gap;
    query_gap = h.query_gap;
  }

-- what a block line holds
abbrev vals : List ℕ → ℕ → List ℕ
vals s line = values_from (take (word_count s line) block_columns) 0 s line

module _ (s : List ℕ) (line : ℕ) where
  pub gap_holds : (z dt dq : ℕ) → block_line s line ≡ Ok (Gap z dt dq) → (size_at s line ≡ z) × (target_gap s line ≡ dt) × (query_gap s line ≡ dq)
  unfolding block_line block_numbers size_at target_gap query_gap line_values
  gap_holds z dt dq e = go (block_words s line (word_count s line)) (columns_from (take (word_count s line) block_columns) 0 s line) (eqb (word_count s line) column.last_count) e
    where
      go : (c : Result ⊤ Fault) (d : Result ℕ Fault) (t : Bool) → then_check Err c (then_next Err d (cond t (Ok (Last (value_of (vals s line) column.size))) (Ok (Gap (value_of (vals s line) column.size) (value_of (vals s line) column.dt) (value_of (vals s line) column.dq))))) ≡ Ok (Gap z dt dq) → (value_of (vals s line) column.size ≡ z) × (value_of (vals s line) column.dt ≡ dt) × (value_of (vals s line) column.dq ≡ dq)
      go (Ok tt) (Ok f) false k = (cc, cc, cc)
      go (Ok tt) (Ok f) true k = absurd (let q : ◌≡◌ {A = ℕ} 0 1 = cc in omega arith)
      go (Ok tt) (Err x) t k = absurd (let q : ◌≡◌ {A = ℕ} 0 1 = cc in omega arith)
      go (Err x) d t k = absurd (let q : ◌≡◌ {A = ℕ} 0 1 = cc in omega arith)

  pub last_holds : (z : ℕ) → block_line s line ≡ Ok (Last z) → size_at s line ≡ z
  unfolding block_line block_numbers size_at line_values
  last_holds z e = go (block_words s line (word_count s line)) (columns_from (take (word_count s line) block_columns) 0 s line) (eqb (word_count s line) column.last_count) e
    where
      go : (c : Result ⊤ Fault) (d : Result ℕ Fault) (t : Bool) → then_check Err c (then_next Err d (cond t (Ok (Last (value_of (vals s line) column.size))) (Ok (Gap (value_of (vals s line) column.size) (value_of (vals s line) column.dt) (value_of (vals s line) column.dq))))) ≡ Ok (Last z) → value_of (vals s line) column.size ≡ z
      go (Ok tt) (Ok f) true k = cc
      go (Ok tt) (Ok f) false k = absurd (let q : ◌≡◌ {A = ℕ} 0 1 = cc in omega arith)
      go (Ok tt) (Err x) t k = absurd (let q : ◌≡◌ {A = ℕ} 0 1 = cc in omega arith)
      go (Err x) d t k = absurd (let q : ◌≡◌ {A = ℕ} 0 1 = cc in omega arith)
