-- A text is accepted exactly when it is a chain, and then with the record and the rows that it says. Assumes nothing.
use mathlib.Core.Path.{◌≡◌, refl, sym, ap, ◌∙◌}
use mathlib.Core.Bool.{true, false}
use mathlib.Core.List.{List}
use Prim.Native.Nat.{ℕ, zero, suc, ◌-◌, ◌<◌}
use native.Mathlib.Omega.{arith}
use lib.ListN.{length, get_or, drop}
use lib.Dec.{eqb}
use borrow.Author.Tests.{eqb-true, eq-eqb}
use Rattle.ledger.specs.Limits.{block_limit}
use Rattle.ledger.specs.Strands.{strand_of, strand_letter, strand_is}
use Rattle.text.specs.Checks.{text_check, last_line_check}
use Rattle.text.specs.Pieces.{lines_of, line_of}
use Rattle.text.specs.Words.{next_line, word_at, word_count, bytes_of}
use Rattle.text.proofs.CheckLaws as textLaws
use Rattle.text.proofs.StageLaws.{require_passes, went}
use Rattle.text.proofs.TextLaws.{both}
use Rattle.text.proofs.PieceLaws.{word_bytes}
use Rattle.kinds.specs.declared.Kind.TheVariants.{Name}
use Rattle.kinds.specs.Kinds.{spelt}
use Rattle.kinds.proofs.RangeLaws.{name_spelt, strand_spelt}
use Rattle.columns.proofs.Meant.{meant_length, meant_spells, spells_meant}
use Rattle.columns.specs.Columns.{columns_from, values_from, value_of, place_of, then_next}
use Rattle.columns.specs.OneLine.{count_check}
use Rattle.columns.proofs.OneLineLaws.{count_of_lem, count_is}
use Rattle.blocks.specs.Blocks.{span_fits}
use Rattle.columns.specs.Names.{part_of}
use Rattle.columns.specs.Spells.{firsts}
use Rattle.columns.specs.Places.{kind_at, count_before}
use Rattle.columns.proofs.SpellsLaws.{Reads, spells_read, place_is}
use Rattle.columns.proofs.PlaceLaws.{spelt_at, value_first, value_second}
use Rattle.columns.proofs.WordLaws.{word_length, strand_is_lem, letter_is}
use Rattle.chain.specs.declared.Chain.{Chain}
use Rattle.chain.specs.declared.Ending.{Ending}
use Rattle.chain.specs.Columns as column
use Rattle.chain.specs.Table.{chain_columns}
use Rattle.chain.specs.Records.{name_of, chain_record, sizes_from, chain_targets, chain_queries, chain_sizes}
use Rattle.chain.specs.Read.{then_lines, span_check, fill_check, lines_from, after_last, after_lines, after_spans, after_columns, after_words, after_text, chain_stages, chain_check}
use Rattle.chain.specs.Rules.{BlockLines, ChainText}
use Rattle.chain.proofs.AnswerLaws.{read_apart, checked_of, checked_is}
use Rattle.chain.proofs.StageLaws.{head_spells}
use Rattle.chain_laws.proofs.RuleLaws.{span_of, span_is}
use Rattle.chain_laws.proofs.LineLaws.{lines_at, line_there, Ends, walk_says, Ran, lines_run}
use Rattle.std.specs.Prelude.{Ok, Err, Result}
use Rattle.ledger.specs.declared.Fault.{Fault}

-- the values of a header: two numbers for each of its words
abbrev pub head_values : List ℕ → List ℕ
head_values s = values_from chain_columns 0 s 0

-- what the row of checks found of a text that is accepted with the record r
record Accepts (s : List ℕ) (r : Chain) : Type 0 where
  text : text_check s ≡ Ok tt
  head : count_check s 0 column.header_count ≡ Ok tt
  end : ℕ
  read : columns_from chain_columns 0 s 0 ≡ Ok end
  spans : span_check (chain_record (head_values s) 0) (head_values s) ≡ Ok tt
  ending : Ending
  walk : lines_from block_limit s (next_line s 0) (value_of (head_values s) column.t_start) (value_of (head_values s) column.q_start) ≡ Ok ending
  line : last_line_check s ending.line ≡ Ok tt
  fill : fill_check s (chain_record (head_values s) ending.count) ending ≡ Ok tt
  is : r ≡ chain_record (head_values s) ending.count

-- columns that went on, and block lines
record Went (c : Result ℕ Fault) (rest : Result Chain Fault) (r : Chain) : Type 0 where
  end : ℕ
  read : c ≡ Ok end
  on : rest ≡ Ok r

next_then : (c : Result ℕ Fault) (rest : Result Chain Fault) (r : Chain) → then_next Err c rest ≡ Ok r → Went c rest r
next_then (Ok n) rest r e = record { end = n; read = refl; on = e }
next_then (Err x) rest r e = absurd (read_apart r x e)

record Walks (l : Result Ending Fault) (rest : Ending → Result Chain Fault) (r : Chain) : Type 0 where
  end : Ending
  read : l ≡ Ok end
  on : rest end ≡ Ok r

lines_then : (l : Result Ending Fault) (rest : Ending → Result Chain Fault) (r : Chain) → then_lines l rest ≡ Ok r → Walks l rest r
lines_then (Ok n) rest r e = record { end = n; read = refl; on = e }
lines_then (Err x) rest r e = absurd (read_apart r x e)

module _ (s : List ℕ) (r : Chain) where
  accepts_of : chain_stages s ≡ Ok r → Accepts s r
  unfolding chain_stages after_text after_words after_columns after_spans after_lines after_last
  accepts_of e =
      let vs = head_values s in
      let a = went Err (text_check s) (after_text s) (Ok r) (read_apart r) e in
      let b = went Err (count_check s 0 column.header_count) (after_words s) (Ok r) (read_apart r) a.1 in
      let c = next_then (columns_from chain_columns 0 s 0) (after_columns s vs) r b.1 in
      let d = went Err (span_check (chain_record vs 0) vs) (after_spans s vs) (Ok r) (read_apart r) c.on in
      let f = lines_then (lines_from block_limit s (next_line s 0) (value_of vs column.t_start) (value_of vs column.q_start)) (λ x. after_lines s vs x) r d.1 in
      let g = went Err (last_line_check s f.end.line) (after_last s vs f.end) (Ok r) (read_apart r) f.on in
      let h = went Err (fill_check s (chain_record vs f.end.count) f.end) (Ok (chain_record vs f.end.count)) (Ok r) (read_apart r) g.1 in
      let i : chain_record vs f.end.count ≡ r = cc h.1 in
      record { text = a.0; head = b.0; end = c.end; read = c.read; spans = d.0; ending = f.end; walk = f.read; line = g.0; fill = h.0; is = sym i }

  accepts_is : Accepts s r → chain_stages s ≡ Ok r
  unfolding chain_stages after_text after_words after_columns after_spans after_lines after_last
  accepts_is a = rw (a.text, a.head, a.read, a.spans, a.walk, a.line, a.fill, a.is)

-- the spans
spans_hold : (r : Chain) (vs : List ℕ) → span_check r vs ≡ Ok tt → (span_fits r.tStart r.tEnd r.tSize ≡ true) × (span_fits r.qStart r.qEnd r.qSize ≡ true)
unfolding span_check
spans_hold r vs e =
    let a = require_passes (span_fits r.tStart r.tEnd r.tSize) _ _ e in
    let b = require_passes (span_fits r.qStart r.qEnd r.qSize) _ _ a.1 in
    (a.0, b.0)

hold_spans : (r : Chain) (vs : List ℕ) → span_fits r.tStart r.tEnd r.tSize ≡ true → span_fits r.qStart r.qEnd r.qSize ≡ true → span_check r vs ≡ Ok tt
unfolding span_check
hold_spans r vs a b = rw (a, b)

fill_holds : (s : List ℕ) (r : Chain) (e : Ending) → fill_check s r e ≡ Ok tt → (e.target ≡ r.tEnd) × (e.query ≡ r.qEnd)
unfolding fill_check
fill_holds s r e h =
    let a = both (eqb e.target r.tEnd) (eqb e.query r.qEnd) (require_passes _ _ _ h).0 in
    (eqb-true _ _ a.0, eqb-true _ _ a.1)

hold_fill : (s : List ℕ) (r : Chain) (e : Ending) → e.target ≡ r.tEnd → e.query ≡ r.qEnd → fill_check s r e ≡ Ok tt
unfolding fill_check
hold_fill s r e a b = rw (eq-eqb e.target r.tEnd a, eq-eqb e.query r.qEnd b)

-- the columns of a header that is read, by their numbers
module _ (s : List ℕ) (e : ℕ) (count : word_count s 0 ≡ column.header_count) (read : columns_from chain_columns 0 s 0 ≡ Ok e) (k : ℕ) (h : k < column.header_count) where
  abbrev vs : List ℕ
  vs = values_from chain_columns 0 s 0

  value_spelt : spelt (kind_at chain_columns k) (count_before chain_columns 0 (firsts vs) 0 k) (bytes_of s (word_at s 0 k)) ≡ Ok (value_of vs k)
  unfolding chain_columns
  value_spelt =
      let p = spelt_at (head_spells s e count read) k h in
      rw (word_bytes s 0 k, ← value_first vs k) p

  place_spelt : place_of vs k ≡ (word_at s 0 k).start
  unfolding chain_columns
  place_spelt = sym (value_second vs k) ∙ place_is chain_columns 0 s 0 e read k h

  name_part : kind_at chain_columns k ≡ Name → name_of vs k ≡ part_of (word_at s 0 k)
  name_part q =
      let p = name_spelt _ (bytes_of s (word_at s 0 k)) (value_of vs k) (rw q at value_spelt) in
      let v : value_of vs k ≡ (word_at s 0 k).end - (word_at s 0 k).start = p.0 ∙ word_length s k in
      rw (place_spelt, v)

-- two records with the same fields are the same
chain_same : (r q : Chain) → r.score ≡ q.score → r.tName ≡ q.tName → r.tSize ≡ q.tSize → r.tStart ≡ q.tStart → r.tEnd ≡ q.tEnd → r.qName ≡ q.qName → r.qSize ≡ q.qSize → r.qStrand ≡ q.qStrand → r.qStart ≡ q.qStart → r.qEnd ≡ q.qEnd → r.id ≡ q.id → r.blockCount ≡ q.blockCount → r ≡ q
chain_same r q a b c d e f g h i j k l =
    let z : ◌≡◌ {A = Chain} (record {
      score = r.score;
      tName = r.tName;
      tSize = r.tSize;
      tStart = r.tStart;
      tEnd = r.tEnd;
      qName = r.qName;
      qSize = r.qSize;
      qStrand = r.qStrand;
      qStart = r.qStart;
      qEnd = r.qEnd;
      id = r.id;
      blockCount = r.blockCount;
    }) q = rw (a, b, c, d, e, f, g, h, i, j, k, l) in
    z

sizes_length : (n : ℕ) (s : List ℕ) (line : ℕ) → length (sizes_from n s line) ≡ n
unfolding sizes_from
sizes_length zero s line = refl
sizes_length (suc n) s line = ap suc (sizes_length n s (next_line s line))

-- AN ACCEPTED TEXT IS A CHAIN that says its record and its rows
module _ (s : List ℕ) (r : Chain) (ok : chain_check s ≡ Ok r) where
  abbrev a : Accepts s r
  a = accepts_of s r (checked_of s r ok)

  abbrev us : List ℕ
  us = head_values s

  count : word_count s 0 ≡ column.header_count
  count = count_of_lem s 0 column.header_count a.head

  ends : Ends a.ending.target a.ending.query s block_limit (next_line s 0) (value_of us column.t_start) (value_of us column.q_start) a.ending.count
  ends = walk_says s block_limit (omega arith) (next_line s 0) (value_of us column.t_start) (value_of us column.q_start) a.ending a.walk a.line

  ends_count : a.ending.count ≡ ends.n
  ends_count = omega (arith, ends.is)

  first_at : (k : ℕ) → value_of us k ≡ get_or (firsts us) k 0
  first_at k = sym (value_first us k)

  letter_at : strand_letter (strand_is (strand_of (value_of us column.q_strand))) ≡ value_of us column.q_strand
  unfolding chain_columns
  letter_at = letter_is false (value_of us column.q_strand) (strand_spelt false _ (bytes_of s (word_at s 0 column.q_strand)) (value_of us column.q_strand) (value_spelt s a.end count a.read column.q_strand (omega arith))).0

  target_end : a.ending.target ≡ value_of us column.t_end
  unfolding chain_record
  target_end = (fill_holds s (chain_record us a.ending.count) a.ending a.fill).0

  query_end : a.ending.query ≡ value_of us column.q_end
  unfolding chain_record
  query_end = (fill_holds s (chain_record us a.ending.count) a.ending a.fill).1

  blocks_are : BlockLines (value_of us column.t_end) (value_of us column.q_end) (lines_of (drop (next_line s 0) s)) (value_of us column.t_start) (value_of us column.q_start) (chain_targets s (chain_record us a.ending.count)) (chain_queries s (chain_record us a.ending.count)) (chain_sizes s (chain_record us a.ending.count))
  unfolding chain_record chain_targets chain_queries chain_sizes
  blocks_are = rw (ends_count, ← target_end, ← query_end) ends.says

  sizes_are : length (chain_sizes s (chain_record us a.ending.count)) ≡ a.ending.count
  unfolding chain_record chain_sizes
  sizes_are = sizes_length a.ending.count s (next_line s 0)

  pub text_of_lem : ChainText s (firsts (values_from chain_columns 0 s 0)) (lines_of (drop (next_line s 0) s)) r (chain_targets s r) (chain_queries s r) (chain_sizes s r)
  unfolding chain_record chain_columns
  text_of_lem =
      let t = textLaws.text_of_lem s a.text in
      let f = spans_hold (chain_record us 0) us a.spans in
      let t_span = span_of (value_of us column.t_start) (value_of us column.t_end) (value_of us column.t_size) f.0 in
      let q_span = span_of (value_of us column.q_start) (value_of us column.q_end) (value_of us column.q_size) f.1 in
      let i = a.is in
      record {
        short = t.0;
        allowed = t.1;
        lines = lines_at s 0 (textLaws.some_text s (omega (arith, count)));
        lists = _;
        spelt = meant_spells (head_spells s a.end count a.read);
        score = rw i (first_at column.score);
        tName = rw i (name_part s a.end count a.read column.t_name (omega arith) refl);
        tSize = rw i (first_at column.t_size);
        tStart = rw i (first_at column.t_start);
        tEnd = rw i (first_at column.t_end);
        qName = rw i (name_part s a.end count a.read column.q_name (omega arith) refl);
        qSize = rw i (first_at column.q_size);
        qStrand = rw i (letter_at ∙ first_at column.q_strand);
        qStart = rw i (first_at column.q_start);
        qEnd = rw i (first_at column.q_end);
        id = rw i (first_at column.id);
        t_span = rw i t_span.0;
        t_inside = rw i t_span.1;
        q_span = rw i q_span.0;
        q_inside = rw i q_span.1;
        blocks = rw i blocks_are;
        count = rw i sizes_are;
        few = rw i (omega (arith, ends_count, ends.few));
      }

walk_as : (k : ℕ) (s : List ℕ) (line t t' q q' : ℕ) (e : Ending) → t ≡ t' → q ≡ q' → lines_from k s line t q ≡ Ok e → lines_from k s line t' q' ≡ Ok e
walk_as k s line t t' q q' e a b h = rw (a, b) at h

-- AND A CHAIN IS ACCEPTED, with the record and the rows that it says
module _ (s vs : List ℕ) (ls : List (List ℕ)) (r : Chain) (ts qs zs : List ℕ) (c : ChainText s vs ls r ts qs zs) where
  all_words : word_count s 0 ≡ column.header_count
  unfolding word_count chain_columns
  all_words = (meant_length (spells_meant c.spelt)).0

  reads : Reads chain_columns 0 s 0 vs
  unfolding chain_columns
  reads = spells_read chain_columns 0 s 0 vs c.lists all_words c.spelt

  value_at : (k : ℕ) → get_or vs k 0 ≡ value_of (head_values s) k
  value_at k = sym (ap (λ (l : List ℕ). get_or l k 0) reads.values) ∙ value_first (head_values s) k

  part_at : (k : ℕ) → k < column.header_count → kind_at chain_columns k ≡ Name → part_of (word_at s 0 k) ≡ name_of (head_values s) k
  part_at k h q = sym (name_part s reads.end all_words reads.read k h q)

  rest_is : lines_of (drop (next_line s 0) s) ≡ ls
  rest_is = let p = lines_at s 0 (line_there s 0 (line_of s) ls c.lines) in let q = c.lines in cc

  ran : Ran r.tEnd r.qEnd s block_limit (next_line s 0) r.tStart r.qStart ts qs zs
  ran = lines_run s block_limit (next_line s 0) c.blocks (omega (arith, c.count, c.few)) (omega arith) rest_is

  ran_count : r.blockCount ≡ ran.end.count
  ran_count = omega (arith, c.count, ran.count)

  t_start : r.tStart ≡ value_of (head_values s) column.t_start
  t_start = c.tStart ∙ value_at column.t_start

  t_end : r.tEnd ≡ value_of (head_values s) column.t_end
  t_end = c.tEnd ∙ value_at column.t_end

  q_start : r.qStart ≡ value_of (head_values s) column.q_start
  q_start = c.qStart ∙ value_at column.q_start

  q_end : r.qEnd ≡ value_of (head_values s) column.q_end
  q_end = c.qEnd ∙ value_at column.q_end

  said : r ≡ chain_record (head_values s) ran.end.count
  unfolding chain_record chain_columns
  said =
      chain_same r (chain_record (head_values s) ran.end.count) (c.score ∙ value_at column.score) (c.tName ∙ part_at column.t_name (omega arith) refl) (c.tSize ∙ value_at column.t_size) t_start t_end
      (c.qName ∙ part_at column.q_name (omega arith) refl) (c.qSize ∙ value_at column.q_size) (strand_is_lem r.qStrand (value_of (head_values s) column.q_strand) (c.qStrand ∙ value_at column.q_strand)) q_start q_end (c.id ∙ value_at column.id) ran_count

  spans_are : span_check (chain_record (head_values s) 0) (head_values s) ≡ Ok tt
  unfolding chain_record
  spans_are =
      let us = head_values s in
      let t : span_fits (value_of us column.t_start) (value_of us column.t_end) (value_of us column.t_size) ≡ true = rw (t_start, t_end, c.tSize ∙ value_at column.t_size) at (span_is r.tStart r.tEnd r.tSize c.t_span c.t_inside) in
      let q : span_fits (value_of us column.q_start) (value_of us column.q_end) (value_of us column.q_size) ≡ true = rw (q_start, q_end, c.qSize ∙ value_at column.q_size) at (span_is r.qStart r.qEnd r.qSize c.q_span c.q_inside) in
      hold_spans (chain_record us 0) us t q

  filled : fill_check s (chain_record (head_values s) ran.end.count) ran.end ≡ Ok tt
  unfolding chain_record
  filled = hold_fill s (chain_record (head_values s) ran.end.count) ran.end (ran.target ∙ t_end) (ran.query ∙ q_end)

  pub text_is : chain_check s ≡ Ok r
  text_is =
      checked_is s r (accepts_is s r (record {
        text = textLaws.text_is s c.short c.allowed;
        head = count_is s 0 column.header_count all_words;
        end = reads.end;
        read = reads.read;
        spans = spans_are;
        ending = ran.end;
        walk = walk_as block_limit s (next_line s 0) _ _ _ _ ran.end t_start q_start ran.ran;
        line = ran.last;
        fill = filled;
        is = said;
      }))

  pub text_targets : ts ≡ chain_targets s r
  unfolding chain_targets
  text_targets = ran.targets ∙ rw c.count

  pub text_queries : qs ≡ chain_queries s r
  unfolding chain_queries
  text_queries = ran.queries ∙ rw c.count

  pub text_sizes : zs ≡ chain_sizes s r
  unfolding chain_sizes
  text_sizes = ran.sizes ∙ ap (λ (n : ℕ). sizes_from n s (next_line s 0)) c.count
