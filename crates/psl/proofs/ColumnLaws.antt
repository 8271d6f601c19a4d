-- From PSL's table of columns to its record and rows. Assumes nothing.
use mathlib.Core.Path.{◌≡◌, refl, sym, ap, ◌∙◌}
use mathlib.Core.List.{List, [], ◌++◌, append-nil}
use Prim.Native.Nat.{ℕ, ◌+◌, ◌*◌, ◌≤◌, ◌<◌}
use native.Mathlib.Omega.{arith}
use lib.ListN.{length, replicate, get_or, take, drop, drop_of_length-le}
use lib.Seq.{sets, sets-eq}
use Rattle.ledger.specs.Limits.{block_limit, largest_position}
use Rattle.ledger.specs.declared.Fault.{Fault}
use Rattle.text.specs.Checks.{then_check}
use Rattle.text.specs.Steps.{Staged}
use Rattle.text.specs.Words.{word_at, bytes_of}
use Rattle.text.specs.Pieces.{words_of, line_of}
use Rattle.text.proofs.PieceLaws.{word_bytes}
use Rattle.text.proofs.StageLaws.{went, staged_stops}
use Rattle.numbers.specs.Lists.{values_of}
use Rattle.kinds.specs.declared.Range.{Range}
use Rattle.kinds.specs.declared.Range.TheVariants.{Coordinate, Size}
use Rattle.kinds.specs.declared.Kind.TheVariants.{Number, Items}
use Rattle.kinds.specs.Kinds.{spelt, items_in}
use Rattle.kinds.proofs.RangeLaws.{number_spelt, count_spelt, items_spelt}
use Rattle.columns.specs.Columns.{table_of, columns_from, values_from, lists_from, value_of}
use Rattle.columns.specs.Spells.{firsts}
use Rattle.columns.proofs.Meant.{Meant}
use Rattle.columns.specs.Places.{kind_at, count_before}
use Rattle.columns.specs.OneLine.{line_read, LineWalked}
use Rattle.columns.proofs.SpellsLaws.{columns_mean}
use Rattle.columns.proofs.PlaceLaws.{spelt_at, value_first, values_length, lists_length, lists_at}
use Rattle.columns.proofs.OneLineLaws.{line_found}
use Rattle.psl.specs.declared.Psl.{Psl}
use Rattle.psl.specs.Columns as column
use Rattle.psl.specs.Table.{psl_columns}
use Rattle.psl.specs.Records.{counts_of, psl_record, psl_sizes, psl_queries, psl_targets}
use Rattle.psl.specs.Read.{span_check, row_check, after_line, psl_stages, Listed}
use Rattle.psl.specs.Steps.{CountsRange, Ready}
use Rattle.psl.proofs.AnswerLaws.{read_apart}
use Rattle.std.specs.Prelude.{Ok, Err, Result}

pub table_is : table_of psl_columns ≡ psl_columns
unfolding table_of psl_columns
table_is = refl

-- what is read is the columns' record
pub read_record : (s vs : List ℕ) (r : Psl) → after_line s vs ≡ Ok r → psl_record vs ≡ r
unfolding after_line
read_record s vs r e =
    let a = went Err (span_check (psl_record vs) vs) (then_check Err (row_check s (psl_record vs)) (Ok (psl_record vs))) (Ok r) (read_apart r) e in
    let b = went Err (row_check s (psl_record vs)) (Ok (psl_record vs)) (Ok r) (read_apart r) a.1 in
    let q = b.1 in
    cc

-- the columns of a line that is read
module _ (s : List ℕ) (e : ℕ) (found : line_read psl_columns s ≡ Ok e) where
  abbrev vs : List ℕ
  vs = values_from psl_columns 0 s 0

  read : columns_from psl_columns 0 s 0 ≡ Ok e
  read = (line_found psl_columns s e found).read

  spells : Meant psl_columns 0 (words_of (line_of s)) (firsts vs)
  spells = columns_mean psl_columns 0 s 0 e (line_found psl_columns s e found).count read

  word : (k : ℕ) → get_or (words_of (line_of s)) k [] ≡ bytes_of s (word_at s 0 k)
  word k = sym (word_bytes s 0 k)

  -- a count is a coordinate
  count_range : (k : ℕ) → k < column.count → kind_at psl_columns k ≡ Number Coordinate → value_of vs k ≤ largest_position
  unfolding psl_columns
  count_range k h q =
      let p = spelt_at spells k h in
      let c = number_spelt Coordinate (count_before psl_columns 0 (firsts vs) 0 k) (get_or (words_of (line_of s)) k []) (get_or (firsts vs) k 0) (rw q at p) in
      rw (value_first vs k) at c.1

  counts_range : CountsRange (counts_of vs)
  unfolding psl_columns counts_of
  counts_range = record {
    matches = count_range column.matches (omega arith) refl;
    misMatches = count_range column.mis_matches (omega arith) refl;
    repMatches = count_range column.rep_matches (omega arith) refl;
    nCount = count_range column.n_count (omega arith) refl;
    qBaseInsert = count_range column.q_base_insert (omega arith) refl;
    tBaseInsert = count_range column.t_base_insert (omega arith) refl;
  }

  block_count : value_of vs column.block_count ≤ block_limit
  unfolding psl_columns
  block_count =
      let p = spelt_at spells column.block_count (omega arith) in
      let c = count_spelt 0 (get_or (words_of (line_of s)) column.block_count []) (get_or (firsts vs) column.block_count 0) p in
      rw (value_first vs column.block_count) at c.1

  -- a list holds the values of its word, as many as blockCount says
  list_is : (k : ℕ) (r : Range) → spelt (Items r) (get_or (firsts vs) column.block_count 0) (get_or (words_of (line_of s)) k []) ≡ Ok (get_or (firsts vs) k 0)
      → (items_in (Items r) (bytes_of s (word_at s 0 k)) ≡ values_of (bytes_of s (word_at s 0 k))) × (length (items_in (Items r) (bytes_of s (word_at s 0 k))) ≡ value_of vs column.block_count)
  list_is k r p =
      let c = items_spelt r (get_or (firsts vs) column.block_count 0) (get_or (words_of (line_of s)) k []) (get_or (firsts vs) k 0) p in
      let d = rw (value_first vs column.block_count, word k) at c in
      (d.0, ap length d.0 ∙ d.2)

  module _ (d : List ℕ) (long : length d ≡ 3 * block_limit) where
    abbrev held : List ℕ
    held = lists_from psl_columns 0 s 0 0 d

    sizes_held : take (value_of vs column.block_count) held ≡ psl_sizes s
    unfolding psl_columns psl_sizes
    sizes_held =
        let z = list_is column.block_sizes Size (spelt_at spells column.block_sizes (omega arith)) in
        lists_at block_limit psl_columns 0 s 0 e 0 d read column.block_sizes (omega arith) refl (value_of vs column.block_count) z.1 block_count (omega (arith, block_count)) ∙ z.0

    queries_held : take (value_of vs column.block_count) (drop block_limit held) ≡ psl_queries s
    unfolding psl_columns psl_queries
    queries_held =
        let z = list_is column.q_starts Coordinate (spelt_at spells column.q_starts (omega arith)) in
        lists_at block_limit psl_columns 0 s 0 e 0 d read column.q_starts (omega arith) refl (value_of vs column.block_count) z.1 block_count (omega (arith, block_count)) ∙ z.0

    targets_held : take (value_of vs column.block_count) (drop (2 * block_limit) held) ≡ psl_targets s
    unfolding psl_columns psl_targets
    targets_held =
        let z = list_is column.t_starts Coordinate (spelt_at spells column.t_starts (omega arith)) in
        lists_at block_limit psl_columns 0 s 0 e 0 d read column.t_starts (omega arith) refl (value_of vs column.block_count) z.1 block_count (omega (arith, block_count)) ∙ z.0

    line_ready : Ready s (psl_record vs) held
    unfolding psl_record
    line_ready = record {
      held = record {
        long = lists_length block_limit psl_columns 0 s 0 e 0 d read ∙ long;
        few = block_count;
        sizes = sizes_held;
        queries = queries_held;
        targets = targets_held;
      };
      range = counts_range;
    }

  -- the values fill the reader's table exactly
  values_all : (z : List ℕ) → length z ≡ 2 * column.count → sets z 0 vs ≡ vs
  unfolding psl_columns
  values_all z l =
      let n : length vs ≡ 2 * column.count = values_length psl_columns 0 s 0 e read in
      let q : 0 + length vs ≡ 2 * column.count = omega arith in
      let x : sets z 0 vs ≡ vs ++ drop (0 + length vs) z = sets-eq vs z 0 (omega arith) in
      let m : length z ≤ 0 + length vs = omega arith in
      let y : drop (0 + length vs) z ≡ [] = drop_of_length-le z m in
      x ∙ rw (y, append-nil)

-- the line read, and on
module _ (s b' d d' : List ℕ) (long : length d ≡ 3 * block_limit) (x : Result ℕ Fault) (read : LineWalked (table_of psl_columns) s (replicate (2 * column.count) 0) b' d d' x) where
  read_is : x ≡ line_read psl_columns s
  read_is = rw table_is at read.result

  module _ (e : ℕ) (q : x ≡ Ok e) where
    next : line_read psl_columns s ≡ Ok e
    next = sym read_is ∙ q

    values_are : b' ≡ values_from psl_columns 0 s 0
    values_are =
        let st : b' ≡ sets (replicate (2 * column.count) 0) 0 (values_from psl_columns 0 s 0) = rw table_is at (read.stored e q) in
        st ∙ values_all s e next (replicate (2 * column.count) 0) refl

    lists_are : d' ≡ lists_from psl_columns 0 s 0 0 d
    lists_are = rw table_is at (read.held e q)

    pub stage_ready : Ready s (psl_record b') d'
    stage_ready = rw (values_are, lists_are) (line_ready s e next d long)

    pub stage_on : (a : Result Psl Fault) → a ≡ after_line s b' → Staged Ok (Listed s) (psl_stages s) d' a
    unfolding psl_stages
    stage_on a h = record {
      is = rw (next, ← values_are) h;
      held = λ r p. rw (read_record s b' r (sym h ∙ p)) at stage_ready.held;
    }

  pub stage_stops : (l : List ℕ) (y : Fault) → x ≡ Err y → Staged Ok (Listed s) (psl_stages s) l (Err y)
  unfolding psl_stages
  stage_stops l y q =
      let z : line_read psl_columns s ≡ Err y = sym read_is ∙ q in
      staged_stops Err read_apart y (rw z)
