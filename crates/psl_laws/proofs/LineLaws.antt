-- A text is accepted exactly when it is a PSL line, and then with the record that it says. Assumes nothing.
use mathlib.Core.Path.{◌≡◌, refl, sym, ap, ◌∙◌}
use mathlib.Core.Bool.{true, false}
use mathlib.Core.List.{List, [], ◌∷◌}
use Prim.Native.Nat.{ℕ, ◌-◌, ◌≤◌, ◌<◌}
use native.Mathlib.Omega.{arith}
use lib.ListN.{length, get_or}
use Rattle.ledger.specs.Parts.{part_at}
use Rattle.text.specs.Checks.{then_check}
use Rattle.text.specs.Words.{word_at, word_count, bytes_of}
use Rattle.text.specs.Pieces.{line_of, words_of}
use Rattle.text.proofs.TextLaws.{both}
use Rattle.text.proofs.StageLaws.{require_passes, went}
use Rattle.text.proofs.PieceLaws.{word_bytes}
use Rattle.numbers.specs.Ranges.{Between}
use Rattle.kinds.specs.declared.Range.TheVariants.{Coordinate, Size}
use Rattle.kinds.specs.declared.Kind.TheVariants.{Name}
use Rattle.kinds.specs.Kinds.{least_of, most_of, spelt, is_strand}
use Rattle.kinds.proofs.RangeLaws.{name_spelt, strand_spelt, items_spelt}
use Rattle.columns.specs.Columns.{values_from, value_of, place_of, then_next}
use Rattle.columns.specs.Spells.{firsts}
use Rattle.columns.specs.Places.{kind_at, count_before}
use Rattle.columns.specs.OneLine.{line_read}
use Rattle.columns.proofs.SpellsLaws.{columns_mean, place_is}
use Rattle.kinds.proofs.SpeltAsLaws.{numbers_in}
use Rattle.columns.proofs.Meant.{lists_in, spells_lists, list_at}
use Rattle.columns.proofs.PlaceLaws.{spelt_at, value_first, value_second}
use Rattle.columns.proofs.OneLineLaws.{line_found, one_line_of, LineIs, one_line_is}
use Rattle.blocks.specs.Blocks.{blocks_fill, span_fits}
use Rattle.blocks.specs.Rules.{Fills}
use Rattle.blocks.specs.Strands.{strand_start, strand_end}
use Rattle.blocks.proofs.RuleLaws.{fills_of, fills_is}
use Rattle.psl.specs.declared.Counts.{Counts}
use Rattle.psl.specs.declared.Side.{Side}
use Rattle.psl.specs.declared.Psl.{Psl}
use Rattle.psl.specs.Columns as column
use Rattle.psl.specs.Table.{psl_columns}
use Rattle.psl.specs.Records.{counts_of, side_of, psl_record, psl_sizes, psl_queries, psl_targets}
use Rattle.psl.specs.Rows.{rows_fit, counts_fit}
use Rattle.psl.specs.Read.{span_check, row_check, after_line, psl_stages, psl_check}
use Rattle.psl.specs.Rules.{SideSays, SpanIn, CountRules, PslLine}
use Rattle.psl.proofs.AnswerLaws.{read_apart}
use Rattle.psl.proofs.ColumnLaws.{read_record}
use Rattle.psl_laws.proofs.CheckedLaws.{checked_of, checked_is}
use Rattle.psl_laws.proofs.RuleLaws.{span_of, span_is, counts_of_lem, counts_is}
use Rattle.columns.specs.Names.{part_of}
use Rattle.columns.proofs.WordLaws.{word_length, strand_is_lem, letter_is, and_i}
use Rattle.std.specs.Prelude.{Ok, Err, Result}
use Rattle.ledger.specs.declared.Fault.{Fault}

-- the values of a line: two numbers for each of its words
abbrev pub line_values : List ℕ → List ℕ
line_values s = values_from psl_columns 0 s 0

-- what the row of checks found of a line that is accepted with the record r
pub record Accepts (s : List ℕ) (r : Psl) : Type 0 where
  pub end : ℕ
  pub read : line_read psl_columns s ≡ Ok end
  pub is : r ≡ psl_record (line_values s)
  pub spans : span_check r (line_values s) ≡ Ok tt
  pub rows : row_check s r ≡ Ok tt

record Went (c : Result ℕ Fault) (rest : Result Psl Fault) (r : Psl) : Type 0 where
  end : ℕ
  read : c ≡ Ok end
  on : rest ≡ Ok r

next_went : (c : Result ℕ Fault) (rest : Result Psl Fault) (r : Psl) → then_next Err c rest ≡ Ok r → Went c rest r
next_went (Ok n) rest r e = record { end = n; read = refl; on = e }
next_went (Err x) rest r e = absurd (read_apart r x e)

module _ (s : List ℕ) (r : Psl) where
  pub accepts_of : psl_check s ≡ Ok r → Accepts s r
  unfolding psl_stages after_line
  accepts_of e =
      let vs = line_values s in
      let a = next_went (line_read psl_columns s) (after_line s vs) r (checked_of s r e) in
      let i = read_record s vs r a.on in
      let b = went Err (span_check (psl_record vs) vs) (then_check Err (row_check s (psl_record vs)) (Ok (psl_record vs))) (Ok r) (read_apart r) a.on in
      let c = went Err (row_check s (psl_record vs)) (Ok (psl_record vs)) (Ok r) (read_apart r) b.1 in
      record { end = a.end; read = a.read; is = sym i; spans = rw i at b.0; rows = rw i at c.0 }

  stages_are : Accepts s r → psl_stages s ≡ Ok r
  unfolding psl_stages after_line
  stages_are a = rw (a.read, ← a.is, a.spans, a.rows)

  accepts_is : Accepts s r → psl_check s ≡ Ok r
  accepts_is a = checked_is s r (stages_are a)

-- the checks one by one
module _ (r : Psl) (vs : List ℕ) where
  spans_of : span_check r vs ≡ Ok tt → SpanIn r.query × SpanIn r.target
  unfolding span_check
  spans_of e =
      let a = require_passes (span_fits r.query.start r.query.end r.query.size) _ _ e in
      let b = require_passes (span_fits r.target.start r.target.end r.target.size) _ _ a.1 in
      (span_of r.query a.0, span_of r.target b.0)

  spans_is : SpanIn r.query → SpanIn r.target → span_check r vs ≡ Ok tt
  unfolding span_check
  spans_is a b = rw (span_is r.query a, span_is r.target b)

-- the rules of the rows, one by one
record RowsHold (s : List ℕ) (r : Psl) : Type 0 where
  targets : Fills r.target.start r.target.end r.blockCount (psl_targets s) (psl_sizes s)
  queries : Fills (strand_start r.strand r.query.size r.query.start r.query.end) (strand_end r.strand r.query.size r.query.start r.query.end) r.blockCount (psl_queries s) (psl_sizes s)
  counts : CountRules r.counts (psl_targets s) (psl_queries s) (psl_sizes s)

module _ (s : List ℕ) (r : Psl) (lt : length (psl_targets s) ≡ r.blockCount) (lq : length (psl_queries s) ≡ r.blockCount) (lz : length (psl_sizes s) ≡ r.blockCount) where
  rows_of : row_check s r ≡ Ok tt → RowsHold s r
  unfolding row_check rows_fit
  rows_of e =
      let a = require_passes (rows_fit r (psl_targets s) (psl_queries s) (psl_sizes s)) _ _ e in
      let b = require_passes (counts_fit r.counts (psl_targets s) (psl_queries s) (psl_sizes s)) _ _ a.1 in
      let c = both (blocks_fill r.target.start r.target.end (psl_targets s) (psl_sizes s)) _ a.0 in
      record {
        targets = fills_of _ _ r.blockCount (psl_targets s) (psl_sizes s) lt lz c.0;
        queries = fills_of _ _ r.blockCount (psl_queries s) (psl_sizes s) lq lz c.1;
        counts = counts_of_lem r.counts (psl_targets s) (psl_queries s) (psl_sizes s) b.0;
      }

  rows_fit_lem : RowsHold s r → rows_fit r (psl_targets s) (psl_queries s) (psl_sizes s) ≡ true
  unfolding rows_fit
  rows_fit_lem h = and_i _ _ (fills_is _ _ r.blockCount (psl_targets s) (psl_sizes s) lt lz h.targets) (fills_is _ _ r.blockCount (psl_queries s) (psl_sizes s) lq lz h.queries)

  rows_is : RowsHold s r → row_check s r ≡ Ok tt
  unfolding row_check
  rows_is h = rw (rows_fit_lem h, counts_is r.counts (psl_targets s) (psl_queries s) (psl_sizes s) h.counts)

-- the columns of a line that is read, by their numbers
module _ (s : List ℕ) (e : ℕ) (found : line_read psl_columns s ≡ Ok e) where
  module _ (k : ℕ) (h : k < column.count) where
    -- word k spells value k
    pub value_spelt : spelt (kind_at psl_columns k) (count_before psl_columns 0 (firsts (line_values s)) 0 k) (bytes_of s (word_at s 0 k)) ≡ Ok (value_of (line_values s) k)
    unfolding psl_columns
    value_spelt =
        let f = line_found psl_columns s e found in
        let p = spelt_at (columns_mean psl_columns 0 s 0 e f.count f.read) k h in
        rw (word_bytes s 0 k, ← value_first (line_values s) k) p

    -- and stands at place k
    place_spelt : place_of (line_values s) k ≡ (word_at s 0 k).start
    unfolding psl_columns
    place_spelt = sym (value_second (line_values s) k) ∙ place_is psl_columns 0 s 0 e (line_found psl_columns s e found).read k h

    name_part : kind_at psl_columns k ≡ Name → part_at (place_of (line_values s) k) (value_of (line_values s) k) ≡ part_of (word_at s 0 k)
    name_part q =
        let p = name_spelt _ (bytes_of s (word_at s 0 k)) (value_of (line_values s) k) (rw q at value_spelt) in
        let v : value_of (line_values s) k ≡ (word_at s 0 k).end - (word_at s 0 k).start = p.0 ∙ word_length s k in
        rw (place_spelt, v)

  -- the strand's letter
  pub letter_told : is_strand false (value_of (line_values s) column.strand ∷ []) ≡ true
  unfolding psl_columns
  letter_told = (strand_spelt false _ (bytes_of s (word_at s 0 column.strand)) (value_of (line_values s) column.strand) (value_spelt column.strand (omega arith))).0

  -- a list: its numbers in their range, as many as blockCount says
  pub sizes_are : Between (least_of Size) (most_of Size) (psl_sizes s) × (length (psl_sizes s) ≡ value_of (line_values s) column.block_count)
  unfolding psl_columns psl_sizes
  sizes_are =
      let c = items_spelt Size (get_or (firsts (line_values s)) column.block_count 0) (bytes_of s (word_at s 0 column.block_sizes)) (value_of (line_values s) column.block_sizes) (value_spelt column.block_sizes (omega arith)) in
      (c.1, c.2 ∙ value_first (line_values s) column.block_count)

  pub queries_are : Between (least_of Coordinate) (most_of Coordinate) (psl_queries s) × (length (psl_queries s) ≡ value_of (line_values s) column.block_count)
  unfolding psl_columns psl_queries
  queries_are =
      let c = items_spelt Coordinate (get_or (firsts (line_values s)) column.block_count 0) (bytes_of s (word_at s 0 column.q_starts)) (value_of (line_values s) column.q_starts) (value_spelt column.q_starts (omega arith)) in
      (c.1, c.2 ∙ value_first (line_values s) column.block_count)

  pub targets_are : Between (least_of Coordinate) (most_of Coordinate) (psl_targets s) × (length (psl_targets s) ≡ value_of (line_values s) column.block_count)
  unfolding psl_columns psl_targets
  targets_are =
      let c = items_spelt Coordinate (get_or (firsts (line_values s)) column.block_count 0) (bytes_of s (word_at s 0 column.t_starts)) (value_of (line_values s) column.t_starts) (value_spelt column.t_starts (omega arith)) in
      (c.1, c.2 ∙ value_first (line_values s) column.block_count)

-- two records with the same fields are the same
counts_same : (c d : Counts) → c.matches ≡ d.matches → c.misMatches ≡ d.misMatches → c.repMatches ≡ d.repMatches → c.nCount ≡ d.nCount → c.qNumInsert ≡ d.qNumInsert → c.qBaseInsert ≡ d.qBaseInsert → c.tNumInsert ≡ d.tNumInsert → c.tBaseInsert ≡ d.tBaseInsert → c ≡ d
counts_same c d e f g h i j k l =
    let z : ◌≡◌ {A = Counts} (record {
      matches = c.matches;
      misMatches = c.misMatches;
      repMatches = c.repMatches;
      nCount = c.nCount;
      qNumInsert = c.qNumInsert;
      qBaseInsert = c.qBaseInsert;
      tNumInsert = c.tNumInsert;
      tBaseInsert = c.tBaseInsert;
    }) d = rw (e, f, g, h, i, j, k, l) in
    z

side_same : (x y : Side) → x.name ≡ y.name → x.size ≡ y.size → x.start ≡ y.start → x.end ≡ y.end → x ≡ y
side_same x y e f g h =
    let z : ◌≡◌ {A = Side} (record { name = x.name; size = x.size; start = x.start; end = x.end }) y = rw (e, f, g, h) in
    z

psl_same : (r q : Psl) → r.counts ≡ q.counts → r.strand ≡ q.strand → r.query ≡ q.query → r.target ≡ q.target → r.blockCount ≡ q.blockCount → r ≡ q
psl_same r q e f g h i =
    let z : ◌≡◌ {A = Psl} (record { counts = r.counts; strand = r.strand; query = r.query; target = r.target; blockCount = r.blockCount }) q = rw (e, f, g, h, i) in
    z

-- the lists of the block columns are those of their words
module _ (s : List ℕ) (count : word_count s 0 ≡ length psl_columns) where
  word_count_lem : length (words_of (line_of s)) ≡ column.count
  unfolding word_count psl_columns
  word_count_lem = count

  module _ (k : ℕ) (h : k < column.count) where
    list_word : get_or (lists_in psl_columns (words_of (line_of s))) k [] ≡ numbers_in (get_or psl_columns k Name) (bytes_of s (word_at s 0 k))
    unfolding psl_columns
    list_word = list_at psl_columns (words_of (line_of s)) k h (omega (arith, word_count_lem)) ∙ ap (numbers_in (get_or psl_columns k Name)) (sym (word_bytes s 0 k))

  pub listed_sizes : psl_sizes s ≡ get_or (lists_in psl_columns (words_of (line_of s))) column.block_sizes []
  unfolding psl_sizes psl_columns
  listed_sizes = sym (list_word column.block_sizes (omega arith))

  pub listed_queries : psl_queries s ≡ get_or (lists_in psl_columns (words_of (line_of s))) column.q_starts []
  unfolding psl_queries psl_columns
  listed_queries = sym (list_word column.q_starts (omega arith))

  pub listed_targets : psl_targets s ≡ get_or (lists_in psl_columns (words_of (line_of s))) column.t_starts []
  unfolding psl_targets psl_columns
  listed_targets = sym (list_word column.t_starts (omega arith))

-- an accepted line is a PSL line that says its record
module _ (s : List ℕ) (r : Psl) (ok : psl_check s ≡ Ok r) where
  abbrev a : Accepts s r
  a = accepts_of s r ok

  abbrev us : List ℕ
  us = line_values s

  first_at : (k : ℕ) → value_of us k ≡ get_or (firsts us) k 0
  first_at k = sym (value_first us k)

  count_is : r.blockCount ≡ value_of us column.block_count
  unfolding psl_record
  count_is = rw a.is

  query_says : SideSays s (firsts us) column.q_name (side_of us column.q_name)
  unfolding side_of psl_columns
  query_says = record { name = name_part s a.end a.read column.q_name (omega arith) refl; size = first_at column.q_size; start = first_at column.q_start; end = first_at column.q_end }

  target_says : SideSays s (firsts us) column.t_name (side_of us column.t_name)
  unfolding side_of psl_columns
  target_says = record { name = name_part s a.end a.read column.t_name (omega arith) refl; size = first_at column.t_size; start = first_at column.t_start; end = first_at column.t_end }

  pub accepted_targets : length (psl_targets s) ≡ r.blockCount
  accepted_targets = (targets_are s a.end a.read).1 ∙ sym count_is

  pub accepted_queries : length (psl_queries s) ≡ r.blockCount
  accepted_queries = (queries_are s a.end a.read).1 ∙ sym count_is

  pub accepted_sizes : length (psl_sizes s) ≡ r.blockCount
  accepted_sizes = (sizes_are s a.end a.read).1 ∙ sym count_is

  some_columns : 1 ≤ length psl_columns
  unfolding psl_columns
  some_columns = omega arith

  pub line_of_lem : PslLine s (firsts (values_from psl_columns 0 s 0)) (lists_in psl_columns (words_of (line_of s))) r (psl_targets s) (psl_queries s) (psl_sizes s)
  unfolding psl_record counts_of
  line_of_lem =
      let i = a.is in
      let spans = spans_of r us a.spans in
      let rows = rows_of s r accepted_targets accepted_queries accepted_sizes a.rows in
      let count = (line_found psl_columns s a.end a.read).count in
      record {
        line = one_line_of psl_columns s a.end some_columns a.read;
        matches = rw i (first_at column.matches);
        misMatches = rw i (first_at column.mis_matches);
        repMatches = rw i (first_at column.rep_matches);
        nCount = rw i (first_at column.n_count);
        qNumInsert = rw i (first_at column.q_num_insert);
        qBaseInsert = rw i (first_at column.q_base_insert);
        tNumInsert = rw i (first_at column.t_num_insert);
        tBaseInsert = rw i (first_at column.t_base_insert);
        strand = rw i (letter_is false (value_of us column.strand) (letter_told s a.end a.read) ∙ first_at column.strand);
        query = rw i query_says;
        target = rw i target_says;
        blockCount = rw i (first_at column.block_count);
        listed_sizes = listed_sizes s count;
        listed_queries = listed_queries s count;
        listed_targets = listed_targets s count;
        query_span = spans.0;
        target_span = spans.1;
        target_blocks = rows.targets;
        query_blocks = rows.queries;
        counts = rows.counts;
      }

-- and a PSL line is accepted, with the record that it says
module _ (s : List ℕ) (r : Psl) (vs : List ℕ) (ls : List (List ℕ)) (ts qs zs : List ℕ) (line : PslLine s vs ls r ts qs zs) where
  reads : LineIs psl_columns s vs
  reads = one_line_is psl_columns s vs ls line.line

  list_said : (k : ℕ) → get_or ls k [] ≡ get_or (lists_in psl_columns (words_of (line_of s))) k []
  list_said k = ap (λ (l : List (List ℕ)). get_or l k []) (spells_lists line.line.spelt)

  pub line_sizes : zs ≡ psl_sizes s
  line_sizes = line.listed_sizes ∙ list_said column.block_sizes ∙ sym (listed_sizes s line.line.count)

  pub line_queries : qs ≡ psl_queries s
  line_queries = line.listed_queries ∙ list_said column.q_starts ∙ sym (listed_queries s line.line.count)

  pub line_targets : ts ≡ psl_targets s
  line_targets = line.listed_targets ∙ list_said column.t_starts ∙ sym (listed_targets s line.line.count)

  rows_said : RowsHold s r
  rows_said = record {
    targets = rw (line_targets, line_sizes) at line.target_blocks;
    queries = rw (line_queries, line_sizes) at line.query_blocks;
    counts = rw (line_targets, line_queries, line_sizes) at line.counts;
  }

  value_at : (k : ℕ) → get_or vs k 0 ≡ value_of (line_values s) k
  value_at k = sym (ap (λ (l : List ℕ). get_or l k 0) reads.values) ∙ value_first (line_values s) k

  part_at_lem : (k : ℕ) → k < column.count → kind_at psl_columns k ≡ Name → part_of (word_at s 0 k) ≡ part_at (place_of (line_values s) k) (value_of (line_values s) k)
  part_at_lem k h q = sym (name_part s reads.end reads.read k h q)

  said : r ≡ psl_record (line_values s)
  unfolding psl_record counts_of side_of psl_columns
  said =
      let us = line_values s in
      let x = line.query in
      let y = line.target in
      psl_same r (psl_record us)
      (counts_same r.counts (counts_of us) (line.matches ∙ value_at column.matches) (line.misMatches ∙ value_at column.mis_matches) (line.repMatches ∙ value_at column.rep_matches) (line.nCount ∙ value_at column.n_count) (line.qNumInsert ∙ value_at column.q_num_insert) (line.qBaseInsert ∙ value_at column.q_base_insert)
      (line.tNumInsert ∙ value_at column.t_num_insert) (line.tBaseInsert ∙ value_at column.t_base_insert))
      (strand_is_lem r.strand (value_of us column.strand) (line.strand ∙ value_at column.strand))
      (side_same r.query (side_of us column.q_name) (x.name ∙ part_at_lem column.q_name (omega arith) refl) (x.size ∙ value_at column.q_size) (x.start ∙ value_at column.q_start) (x.end ∙ value_at column.q_end))
      (side_same r.target (side_of us column.t_name) (y.name ∙ part_at_lem column.t_name (omega arith) refl) (y.size ∙ value_at column.t_size) (y.start ∙ value_at column.t_start) (y.end ∙ value_at column.t_end))
      (line.blockCount ∙ value_at column.block_count)

  line_accepts : Accepts s r
  line_accepts =
      let n : r.blockCount ≡ value_of (line_values s) column.block_count = line.blockCount ∙ value_at column.block_count in
      let lt : length (psl_targets s) ≡ r.blockCount = (targets_are s reads.end reads.read).1 ∙ sym n in
      let lq : length (psl_queries s) ≡ r.blockCount = (queries_are s reads.end reads.read).1 ∙ sym n in
      let lz : length (psl_sizes s) ≡ r.blockCount = (sizes_are s reads.end reads.read).1 ∙ sym n in
      record {
        end = reads.end;
        read = reads.read;
        is = said;
        spans = spans_is r (line_values s) line.query_span line.target_span;
        rows = rows_is s r lt lq lz rows_said;
      }

pub line_is : (s : List ℕ) (r : Psl) (vs : List ℕ) (ls : List (List ℕ)) (ts qs zs : List ℕ) → PslLine s vs ls r ts qs zs → psl_check s ≡ Ok r
line_is s r vs ls ts qs zs line = accepts_is s r (line_accepts s r vs ls ts qs zs line)
