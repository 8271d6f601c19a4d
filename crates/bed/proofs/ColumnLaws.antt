-- From BED's table of columns to its record: what the columns read hold. Assumes nothing.
use mathlib.Core.Path.{◌≡◌, refl, sym, ap, ◌∙◌}
use mathlib.Core.Bool.{Bool, true, false, not, ◌&&◌, ◌||◌}
use mathlib.Core.List.{List, [], ◌∷◌}
use Prim.Native.Nat.{ℕ, ◌+◌, ◌*◌, ◌≤◌}
use native.Mathlib.Omega.{arith}
use lib.ListN.{length, replicate, get_or, take, drop, length-take}
use lib.Seq.{sets}
use lib.Dec.{leb, eqb}
use borrow.Author.Tests.{lt-ltb, le-ltb, le-leb, leb-true, eqb-true, not-false}
use Rattle.std.specs.Result.{result_ok}
use Rattle.std.specs.Prelude.{Ok, Err, Result, Option, Some, None, ⊤}
use Rattle.ledger.specs.Limits.{block_limit, largest_position}
use Rattle.ledger.specs.declared.Fault.{Fault}
use Rattle.text.specs.Checks.{then_check, text_check, words_check}
use Rattle.text.specs.Steps.{Staged}
use Rattle.text.specs.Words.{line_end, word_at, word_count, bytes_of}
use Rattle.text.specs.Pieces.{words_of, line_of}
use Rattle.text.proofs.CheckLaws.{words_good, words_hold}
use Rattle.text.proofs.StageLaws.{went, staged_stops, staged_goes}
use Rattle.text.proofs.TextLaws.{both}
use Rattle.text.proofs.PieceLaws.{word_bytes}
use Rattle.numbers.specs.Ranges.{Between}
use Rattle.numbers.specs.Lists.{values_of}
use Rattle.kinds.specs.declared.Range.TheVariants.{Coordinate, Size}
use Rattle.kinds.specs.Kinds.{items_in}
use Rattle.kinds.proofs.RangeLaws.{count_spelt, items_spelt}
use Rattle.columns.specs.declared.Quick.{Quick}
use Rattle.columns.specs.Columns.{column_limit, table_of, columns_from, values_from, lists_by, few_blocks, value_of, place_of, ColumnsWalked, QuickWalked}
use Rattle.columns.specs.OneLine.{count_check, WordsWalked}
use Rattle.columns.specs.Spells.{firsts}
use Rattle.columns.specs.Places.{kind_at}
use Rattle.columns.proofs.Meant.{Meant}
use Rattle.columns.proofs.SpellsLaws.{columns_mean}
use Rattle.columns.proofs.WalkLaws.{walk_through}
use Rattle.columns.proofs.OneLineLaws.{count_of_lem, count_is}
use Rattle.columns.proofs.PlaceLaws.{spelt_at, value_first, lists_length, lists_at}
use Rattle.columns.proofs.TableLaws.{front_length, table_is, read_is, read_next, values_stored, values_same, lists_are}
use Rattle.bed.specs.Columns as column
use Rattle.bed.specs.Table.{bed_columns}
use Rattle.bed.specs.Records.{is_word_count, value_or, bed_record}
use Rattle.bed.specs.Read.{span_check, after_columns, after_words, after_text, bed_stages}
use Rattle.bed.specs.Rules.{WordNumber, three_to_nine, twelve}
use Rattle.bed.specs.Steps.{Counted, Listed, Blocked, is_few, QuickStaged}
use Rattle.bed.proofs.ReadLaws.{read_apart}
use Rattle.bed.specs.declared.Bed.{Bed}

pub columns_few : length bed_columns ≤ column_limit
unfolding bed_columns
columns_few = omega arith

-- a good number of words is 3 to 9, or 12
pub number_of_lem : (n : ℕ) → is_word_count n ≡ true → WordNumber n
number_of_lem n e =
    let b = both (leb 3 n) (leb n 9 || eqb n column.all) e in
    go (leb n 9) refl (leb-true 3 n b.0) b.1
  where
    go : (t : Bool) → leb n 9 ≡ t → 3 ≤ n → (t || eqb n column.all) ≡ true → WordNumber n
    go true q l h = three_to_nine l (leb-true n 9 q)
    go false q l h = rw (eqb-true n column.all h) twelve

pub number_is : {n : ℕ} → WordNumber n → is_word_count n ≡ true
number_is (three_to_nine {n} a b) = rw (le-leb 3 n a, le-leb n 9 b)
number_is twelve = refl

pub by_number : {n : ℕ} → WordNumber n → (P : Type 0) → (3 ≤ n → n ≤ 9 → P) → (n ≡ column.all → P) → P
by_number (three_to_nine a b) P f g = f a b
by_number twelve P f g = g refl

pub most_words : {n : ℕ} → WordNumber n → n ≤ column.all
most_words (three_to_nine a b) = omega arith
most_words twelve = omega arith

pub least_words : {n : ℕ} → WordNumber n → 3 ≤ n
least_words (three_to_nine a b) = a
least_words twelve = omega arith

pub count_most : (n : ℕ) → is_word_count n ≡ true → n ≤ column.all
count_most n h = most_words (number_of_lem n h)

-- a record and its checks depend on the values at their places alone
module _ (n : ℕ) (a b : List ℕ) (same : (i : ℕ) → get_or a i 0 ≡ get_or b i 0) where
  value : (k : ℕ) → value_of a k ≡ value_of b k
  value k = same (2 * k)

  place : (k : ℕ) → place_of a k ≡ place_of b k
  place k = same (2 * k + 1)

  pub record_same : (len : ℕ) → bed_record n len a ≡ bed_record n len b
  unfolding bed_record
  record_same len = rw (
    value column.chrom,
    place column.chrom,
    value column.chrom_start,
    value column.chrom_end,
    value column.name,
    place column.name,
    value column.score,
    value column.strand,
    value column.thick_start,
    value column.thick_end,
    value column.item_rgb,
    value column.block_count,
  )

  pub columns_same : (s : List ℕ) → after_columns s n a ≡ after_columns s n b
  unfolding after_columns span_check
  columns_same s = rw (record_same (length s), place column.chrom_end, place column.thick_start, place column.thick_end)

-- the lists of a line of twelve words
module _ (s : List ℕ) (e : ℕ) (read : columns_from bed_columns 0 s 0 ≡ Ok e) (count : word_count s 0 ≡ column.all) where
  count_all : word_count s 0 ≡ length bed_columns
  unfolding bed_columns
  count_all = count

  abbrev vs : List ℕ
  vs = values_from bed_columns 0 s 0

  spells : Meant bed_columns 0 (words_of (line_of s)) (firsts vs)
  spells = columns_mean bed_columns 0 s 0 e count_all read

  word : (k : ℕ) → get_or (words_of (line_of s)) k [] ≡ bytes_of s (word_at s 0 k)
  word k = sym (word_bytes s 0 k)

  pub block_count_lem : (1 ≤ value_of vs column.block_count) × (value_of vs column.block_count ≤ block_limit)
  unfolding bed_columns
  block_count_lem =
      let p = spelt_at spells column.block_count (omega arith) in
      let c = count_spelt 0 (get_or (words_of (line_of s)) column.block_count []) (get_or (firsts vs) column.block_count 0) p in
      rw (value_first vs column.block_count) at c

  -- what the two lists hold
  pub block_sizes_lem : (items_in (kind_at bed_columns column.block_sizes) (bytes_of s (word_at s 0 column.block_sizes)) ≡ values_of (bytes_of s (word_at s 0 column.block_sizes))) × Between 1 largest_position (values_of (bytes_of s (word_at s 0 column.block_sizes)))
      × (length (values_of (bytes_of s (word_at s 0 column.block_sizes))) ≡ value_of vs column.block_count)
  unfolding bed_columns
  block_sizes_lem =
      let p = spelt_at spells column.block_sizes (omega arith) in
      let c = items_spelt Size (get_or (firsts vs) column.block_count 0) (get_or (words_of (line_of s)) column.block_sizes []) (get_or (firsts vs) column.block_sizes 0) p in
      let d = rw (value_first vs column.block_count, word column.block_sizes) at c in
      (d.0, d.1, d.2)

  pub block_starts_lem : (items_in (kind_at bed_columns column.block_starts) (bytes_of s (word_at s 0 column.block_starts)) ≡ values_of (bytes_of s (word_at s 0 column.block_starts))) × Between 0 largest_position (values_of (bytes_of s (word_at s 0 column.block_starts)))
      × (length (values_of (bytes_of s (word_at s 0 column.block_starts))) ≡ value_of vs column.block_count)
  unfolding bed_columns
  block_starts_lem =
      let p = spelt_at spells column.block_starts (omega arith) in
      let c = items_spelt Coordinate (get_or (firsts vs) column.block_count 0) (get_or (words_of (line_of s)) column.block_starts []) (get_or (firsts vs) column.block_starts 0) p in
      let d = rw (value_first vs column.block_count, word column.block_starts) at c in
      (d.0, d.1, d.2)

  -- stored b numbers apart
  module _ (b : ℕ) (fits : value_of vs column.block_count ≤ b) (d : List ℕ) (long : length d ≡ 2 * b) where
    pub sizes_held : take (value_of vs column.block_count) (lists_by b bed_columns 0 s 0 0 d) ≡ values_of (bytes_of s (word_at s 0 column.block_sizes))
    unfolding bed_columns
    sizes_held =
        let z = block_sizes_lem in
        let m : length (items_in (kind_at bed_columns column.block_sizes) (bytes_of s (word_at s 0 column.block_sizes))) ≡ value_of vs column.block_count = ap length z.0 ∙ z.2 in
        lists_at b bed_columns 0 s 0 e 0 d read column.block_sizes (omega arith) refl (value_of vs column.block_count) m fits (omega arith) ∙ z.0

    pub starts_held : take (value_of vs column.block_count) (drop b (lists_by b bed_columns 0 s 0 0 d)) ≡ values_of (bytes_of s (word_at s 0 column.block_starts))
    unfolding bed_columns
    starts_held =
        let z = block_starts_lem in
        let m : length (items_in (kind_at bed_columns column.block_starts) (bytes_of s (word_at s 0 column.block_starts))) ≡ value_of vs column.block_count = ap length z.0 ∙ z.2 in
        let q : 0 + b ≡ b = omega arith in
        rw q at (lists_at b bed_columns 0 s 0 e 0 d read column.block_starts (omega arith) refl (value_of vs column.block_count) m fits (omega arith) ∙ z.0)

pub all_columns : take column.all bed_columns ≡ bed_columns
unfolding bed_columns
all_columns = refl

-- the working room after the columns
module _ (s : List ℕ) (n e : ℕ) (count : n ≡ word_count s 0) (good : is_word_count n ≡ true) (read : columns_from (take n bed_columns) 0 s 0 ≡ Ok e) where
  abbrev us : List ℕ
  us = values_from (take n bed_columns) 0 s 0

  twelve_read : n ≡ column.all → columns_from bed_columns 0 s 0 ≡ Ok e
  twelve_read w =
      let t : take n bed_columns ≡ bed_columns = rw w all_columns in
      rw t at read

  pub lists_listed : (b : ℕ) (d : List ℕ) → length d ≡ 2 * b → value_or n us column.block_count 1 ≤ b → (len : ℕ) → Listed b s (bed_record n len us) (lists_by b (take n bed_columns) 0 s 0 0 d)
  unfolding bed_record
  lists_listed b d long fits len =
      by_number (number_of_lem n good) _ (λ l h. record {
        long = lists_length b (take n bed_columns) 0 s 0 e 0 d read ∙ long;
        few = fits;
        one = λ w. rw (le-ltb column.block_count n h);
        sizes = λ w. absurd (omega arith);
        starts = λ w. absurd (omega arith);
      })
      (λ w.
      let t : take n bed_columns ≡ bed_columns = rw w all_columns in
      let c : word_count s 0 ≡ column.all = sym count ∙ w in
      let v : value_or n us column.block_count 1 ≡ value_of (values_from bed_columns 0 s 0) column.block_count = rw (lt-ltb column.block_count n (omega arith), t) in
      let f : value_of (values_from bed_columns 0 s 0) column.block_count ≤ b = rw v at fits in
      record {
        long = lists_length b (take n bed_columns) 0 s 0 e 0 d read ∙ long;
        few = fits;
        one = λ k. absurd (k w);
        sizes = λ k. rw (v, t) (sizes_held s e (twelve_read w) c b f d long);
        starts = λ k. rw (v, t) (starts_held s e (twelve_read w) c b f d long);
      })

  -- every good count of blocks fits in the room for a record's blocks
  pub count_fits_lem : value_or n us column.block_count 1 ≤ block_limit
  count_fits_lem =
      by_number (number_of_lem n good) _ (λ l h. rw (le-ltb column.block_count n h) (omega arith))
      (λ w.
      let t : take n bed_columns ≡ bed_columns = rw w all_columns in
      let c : word_count s 0 ≡ column.all = sym count ∙ w in
      rw (lt-ltb column.block_count n (omega arith), t) (block_count_lem s e (twelve_read w) c).1)

module _ (s : List ℕ) (n : ℕ) (b' d d' : List ℕ) (counted : Counted s n d) (x : Result ℕ Fault) (read : ColumnsWalked (table_of (take n bed_columns)) s 0 (replicate (2 * column.all) 0) b' d d' x) where
  few : n ≤ column.all
  few = count_most n counted.good

  module _ (e : ℕ) (q : x ≡ Ok e) where
    next : columns_from (take n bed_columns) 0 s 0 ≡ Ok e
    unfolding bed_columns
    next = read_next bed_columns columns_few n few s 0 (2 * column.all) (omega (arith, few)) b' d d' x read e q

    same : (i : ℕ) → get_or b' i 0 ≡ get_or (values_from (take n bed_columns) 0 s 0) i 0
    unfolding bed_columns
    same = values_same bed_columns columns_few n few s 0 (2 * column.all) (omega (arith, few)) b' d d' x read e q

    pub words_listed : Listed block_limit s (bed_record n (length s) b') d'
    unfolding bed_columns
    words_listed =
        let h = lists_are bed_columns columns_few n few s 0 (2 * column.all) (omega (arith, few)) b' d d' x read e q in
        rw (record_same n b' (values_from (take n bed_columns) 0 s 0) same (length s), h)
        (lists_listed s n e counted.count counted.good next block_limit d counted.long (count_fits_lem s n e counted.count counted.good next) (length s))

    pub words_line : line_end s e ≡ line_end s 0
    words_line = (walk_through (take n bed_columns) 0 s 0 e next).line

    pub words_on : (l : List ℕ) (a : Result Bed Fault) → Staged Ok (Blocked block_limit s) (after_columns s n b') l a → Staged Ok (Blocked block_limit s) (after_words s n) l a
    unfolding after_words
    words_on l a h = staged_goes a (rw (next, ← columns_same n b' (values_from (take n bed_columns) 0 s 0) same s)) h

  pub words_stop : (l : List ℕ) (y : Fault) → x ≡ Err y → Staged Ok (Blocked block_limit s) (after_words s n) l (Err y)
  unfolding after_words bed_columns
  words_stop l y q =
      let z : columns_from (take n bed_columns) 0 s 0 ≡ Err y = sym (read_is bed_columns columns_few n few s 0 (2 * column.all) (omega (arith, few)) b' d d' x read) ∙ q in
      staged_stops Err read_apart y (rw z)

pub words_few : (s : List ℕ) (n : ℕ) (d : List ℕ) → Counted s n d → n ≤ column.all
words_few s n d h = count_most n h.good

pub words_length : (s : List ℕ) (n : ℕ) (d : List ℕ) → Counted s n d → n ≡ length (take n bed_columns)
unfolding bed_columns
words_length s n d h = front_length bed_columns columns_few n (count_most n h.good)

-- the number of words
module _ (s : List ℕ) (n : ℕ) (en : n ≡ word_count s 0) (t : Bool) (et : t ≡ is_word_count n) (c : Result ⊤ Fault) (ec : c ≡ words_check s 0 n column.all t) where
  pub words_counted : (d : List ℕ) → length d ≡ 2 * block_limit → c ≡ Ok tt → Counted s n d
  words_counted d l q = record { long = l; count = en; good = sym et ∙ (words_hold s 0 n column.all t (sym ec ∙ q)).1 }

  pub text_stop : (l : List ℕ) (x : Fault) → c ≡ Err x → Staged Ok (Blocked block_limit s) (after_text s) l (Err x)
  unfolding after_text
  text_stop l x q = staged_stops Err read_apart x (rw (← en, ← et, ← ec, q))

  pub text_on : (l : List ℕ) (a : Result Bed Fault) → c ≡ Ok tt → Staged Ok (Blocked block_limit s) (after_words s n) l a → Staged Ok (Blocked block_limit s) (after_text s) l a
  unfolding after_text
  text_on l a q h = staged_goes a (rw (← en, ← et, ← ec, q)) h

-- a walk over all columns first
line_then : (c : Result ⊤ Fault) (rest : Result ℕ Fault) (e : ℕ) → then_check Err c rest ≡ Ok e → (c ≡ Ok tt) × (rest ≡ Ok e)
line_then c rest e = went Err c rest (Ok e) (λ x q. let z : ◌≡◌ {A = ℕ} 0 1 = cc in omega arith)

pub table_all : table_of bed_columns ≡ bed_columns
unfolding bed_columns
table_all = table_is bed_columns columns_few column.all (omega arith)

module _ (s b' d d' : List ℕ) (long : length d ≡ 2 * block_limit) (x : Result ℕ Fault) (read : WordsWalked (table_of bed_columns) s (replicate (2 * column.all) 0) b' d d' x) where
  long_is : x ≡ then_check Err (count_check s 0 column.all) (columns_from bed_columns 0 s 0)
  unfolding bed_columns
  long_is = rw table_all at read.result

  module _ (count : word_count s 0 ≡ column.all) where
    all_counted : Counted s column.all d
    all_counted = record { long = long; count = sym count; good = refl }

    all_on : (l : List ℕ) (a : Result Bed Fault) → Staged Ok (Blocked block_limit s) (after_words s column.all) l a → Staged Ok (Blocked block_limit s) (after_text s) l a
    unfolding after_text
    all_on l a h = staged_goes a (rw (count, ← words_good s 0 column.all column.all true (omega arith) refl)) h

  module _ (e : ℕ) (q : x ≡ Ok e) where
    long_read : (count_check s 0 column.all ≡ Ok tt) × (columns_from bed_columns 0 s 0 ≡ Ok e)
    long_read = line_then (count_check s 0 column.all) (columns_from bed_columns 0 s 0) e (sym long_is ∙ q)

    count_all' : word_count s 0 ≡ column.all
    count_all' = count_of_lem s 0 column.all long_read.0

    walked : ColumnsWalked (table_of (take column.all bed_columns)) s 0 (replicate (2 * column.all) 0) b' d d' (Ok e)
    walked = record { result = rw (all_columns, table_all) (sym long_read.1); stored = λ f p. rw all_columns (read.stored e q); held = λ f p. rw all_columns (read.held e q) }

    pub long_listed : Listed block_limit s (bed_record column.all (length s) b') d'
    long_listed = words_listed s column.all b' d d' (all_counted count_all') (Ok e) walked e refl

    pub long_line : line_end s e ≡ line_end s 0
    long_line = read.line e q

    pub long_on : (l : List ℕ) (a : Result Bed Fault) → Staged Ok (Blocked block_limit s) (after_columns s column.all b') l a → Staged Ok (Blocked block_limit s) (after_text s) l a
    long_on l a h = all_on count_all' l a (words_on s column.all b' d d' (all_counted count_all') (Ok e) walked e refl l a h)

  pub long_stop : (l : List ℕ) (y : Fault) (n : ℕ) → x ≡ Err y → n ≡ word_count s 0 → n ≡ column.all → Staged Ok (Blocked block_limit s) (after_text s) l (Err y)
  unfolding after_words
  long_stop l y n q en et =
      let count : word_count s 0 ≡ column.all = sym en ∙ et in
      let r : x ≡ columns_from bed_columns 0 s 0 = rw (count_is s 0 column.all count) at long_is in
      let z : columns_from (take column.all bed_columns) 0 s 0 ≡ Err y = rw all_columns (sym r ∙ q) in
      all_on count l (Err y) (staged_stops Err read_apart y (rw z))

-- the quick way: where it finds something
module _ (s b' d d' : List ℕ) (long : length d ≡ 2 * few_blocks) (x : Option Quick) (walked : QuickWalked (table_of bed_columns) s 0 (replicate (2 * column.all) 0) b' d d' x) (w : Quick) (taken : x ≡ Some w) (n : ℕ) (en : n ≡ w.count)
    (t : Bool) (et : t ≡ is_few n b') (on : not t ≡ false) where
  tests : (is_word_count n ≡ true) × (leb (value_or n b' column.block_count 1) few_blocks ≡ true)
  tests = both (is_word_count n) (leb (value_or n b' column.block_count 1) few_blocks) (sym et ∙ not-false t on)

  quick_read : columns_from (take n bed_columns) 0 s 0 ≡ Ok w.last
  quick_read = rw en (rw table_all at (walked.read w taken))

  quick_count : n ≡ word_count s 0
  quick_count = en ∙ sym (walked.words w taken)

  quick_same : (i : ℕ) → get_or b' i 0 ≡ get_or (values_from (take n bed_columns) 0 s 0) i 0
  unfolding bed_columns
  quick_same =
      let m = count_most n tests.0 in
      let l : 2 * length (take n bed_columns) ≤ 2 * column.all = rw length-take (omega arith) in
      let st : b' ≡ sets (replicate (2 * column.all) 0) 0 (values_from (take n bed_columns) 0 s 0) = rw en (rw table_all at (walked.stored w taken)) in
      values_stored (take n bed_columns) s 0 (2 * column.all) w.last b' l quick_read st

  pub quick_listed : Listed few_blocks s (bed_record n (length s) b') d'
  quick_listed =
      let h : d' ≡ lists_by few_blocks (take n bed_columns) 0 s 0 0 d = rw en (rw table_all at (walked.held w taken)) in
      let f : value_or n (values_from (take n bed_columns) 0 s 0) column.block_count 1 ≤ few_blocks = rw (quick_same (2 * column.block_count)) at (leb-true (value_or n b' column.block_count 1) few_blocks tests.1) in
      rw (record_same n b' (values_from (take n bed_columns) 0 s 0) quick_same (length s), h) (lists_listed s n w.last quick_count tests.0 quick_read few_blocks d long f (length s))

  pub quick_line : line_end s w.last ≡ line_end s 0
  quick_line = (walk_through (take n bed_columns) 0 s 0 w.last quick_read).line

  pub quick_on : (l : List ℕ) (a : Result Bed Fault) → Staged Ok (Blocked few_blocks s) (after_columns s n b') l a → QuickStaged s (after_text s) l (Some a)
  unfolding after_text after_words
  quick_on l a h = record {
    staged = λ found q.
        let same : a ≡ found = cc in
        rw (← same)
        (staged_goes a (rw (← quick_count, ← words_good s 0 n column.all (is_word_count n) (count_most n tests.0) tests.0, quick_read, ← columns_same n b' (values_from (take n bed_columns) 0 s 0) quick_same s)) h);
  }

-- where it finds nothing, nothing is said
pub quick_none : (s l : List ℕ) (answer : Result Bed Fault) → QuickStaged s answer l None
quick_none s l answer = record { staged = λ found q. absurd (let k : ◌≡◌ {A = ℕ} 0 1 = cc in omega arith) }

pub quick_is : (s l : List ℕ) (answer : Result Bed Fault) (x : Option (Result Bed Fault)) → QuickStaged s answer l x → (found : Result Bed Fault) → x ≡ Some found → found ≡ answer
quick_is s l answer x h found q = (h.staged found q).is

pub few_is : (n v : ℕ) (vs : List ℕ) (t : Bool) → t ≡ is_word_count n → v ≡ value_or n vs column.block_count 1 → (t && leb v few_blocks) ≡ is_few n vs
few_is n v vs t et ev = rw (et, ev)

-- the text's checks
module _ (s : List ℕ) (b : Result ⊤ Fault) (eb : b ≡ text_check s) where
  pub quick_text : b ≡ Ok tt → (l : List ℕ) (x : Option (Result Bed Fault)) → QuickStaged s (after_text s) l x → QuickStaged s (bed_stages s) l x
  unfolding bed_stages
  quick_text p l x h = record { staged = λ found q. staged_goes found (rw (← eb, p)) (h.staged found q) }

  pub quick_short : (o : Option ⊤) → o ≡ result_ok b → (u : ⊤) → o ≡ Some u → (l : List ℕ) (x : Option (Result Bed Fault)) → QuickStaged s (after_text s) l x → QuickStaged s (bed_stages s) l x
  quick_short o e u q l x h = quick_text (passed b u (sym e ∙ q)) l x h
    where
      passed : (c : Result ⊤ Fault) (v : ⊤) → result_ok c ≡ Some v → c ≡ Ok tt
      passed (Ok w) v k = refl
      passed (Err y) v k = absurd (let z : ◌≡◌ {A = ℕ} 0 1 = cc in omega arith)

  pub check_stop : (l : List ℕ) (x : Fault) → b ≡ Err x → Staged Ok (Blocked block_limit s) (bed_stages s) l (Err x)
  unfolding bed_stages
  check_stop l x q = staged_stops Err read_apart x (rw (← eb, q))

  pub check_on : (l : List ℕ) (a : Result Bed Fault) → b ≡ Ok tt → Staged Ok (Blocked block_limit s) (after_text s) l a → Staged Ok (Blocked block_limit s) (bed_stages s) l a
  unfolding bed_stages
  check_on l a p h = staged_goes a (rw (← eb, p)) h
