-- The standard text of a chain record that may be written reads back as that record, with the same names and the same rows. Assumes nothing.
use mathlib.Core.Path.{◌≡◌, refl, sym, ap, ◌∙◌}
use mathlib.Core.Bool.{true, false, ◌&&◌}
use mathlib.Core.List.{List, [], ◌∷◌, ◌++◌, append_assoc}
use Prim.Native.Nat.{ℕ, zero, suc, ◌+◌, ◌-◌, ◌≤◌, ◌<◌, zero-le}
use native.Mathlib.Numerals.{add-one}
use native.Mathlib.Omega.{arith}
use lib.ListN.{length, take, drop, get_or}
use lib.Seq.{length-take-le, drop-cons}
use borrow.Author.Tests.{le-leb}
use Rattle.ledger.specs.declared.Strand.{Strand}
use Rattle.ledger.specs.declared.Strand.TheVariants.{Plus, Minus, Dot}
use Rattle.ledger.specs.Limits.{text_limit, largest_position}
use Rattle.ledger.specs.Strands.{strand_letter, is_told}
use Rattle.text.specs.declared.Class.TheVariants.{Graphic, Allowed, Line}
use Rattle.text.specs.Scan.{run}
use Rattle.text.specs.Parts.{part_bytes}
use Rattle.text.specs.Pieces.{lines_of, line_of, words_of, joined}
use Rattle.text.specs.Words.{word_at, bytes_of}
use Rattle.text.proofs.CheckLaws.{fed_allowed}
use Rattle.text.proofs.StageLaws.{require_holds}
use Rattle.text.proofs.TextLaws.{All, all_append, both}
use Rattle.text.proofs.PieceLaws.{Worded, pieces_join, lines_none, joined_in_line, line_joined, words_joined, word_bytes}
use Rattle.writing.specs.Digits.{digits}
use Rattle.kinds.specs.declared.Fixed.TheVariants as fixed
use Rattle.kinds.specs.declared.Range.TheVariants.{Coordinate, Size, ChainScore, ChainId}
use Rattle.kinds.specs.declared.Kind.TheVariants.{Number, Stranded, Word}
use Rattle.kinds.proofs.BackLaws.{Written, written_lem}
use Rattle.columns.specs.Names.{all_graphic}
use Rattle.columns.proofs.Meant.{Meant, meant_spells}
use Rattle.columns.proofs.WordLaws.{all_graphic_lem, and_i, name_written, row_spells, row_worded, Row, row_none, row_more, part_bytes_lem}
use Rattle.blocks.specs.Blocks.{count_fits, rows_of, row_numbers_fit}
use Rattle.chain.specs.declared.Chain.{Chain}
use Rattle.chain.specs.Columns as column
use Rattle.chain.specs.Table.{chain_columns, block_columns}
use Rattle.chain.specs.Records.{chain_targets, chain_queries, chain_sizes}
use Rattle.chain.specs.Read.{chain_check, chain_roomed, chain_read}
use Rattle.chain.specs.Tests.{names_fit, fields_fit, spans_fit, rows_fit, chain_valid}
use Rattle.chain.specs.Write.{names_show, write_check, head_words, fed_words, gap_to, gap_words, block_text, chain_text}
use Rattle.chain.specs.Rules.{BlockLines, last_line, more_lines, ChainText, ChainRules, named, placed}
use Rattle.chain.proofs.AnswerLaws.{checked_of}
use Rattle.chain_laws.proofs.RuleLaws.{rules_of}
use Rattle.chain_laws.proofs.TextLaws.{text_is, text_targets, text_queries, text_sizes}
use Rattle.std.specs.Prelude.{Ok}

-- what the writer's checks show of a record, its names and its rows
pub record MayWrite (r : Chain) (tName qName ts qs zs : List ℕ) : Type 0 where
  pub rules : ChainRules (named r tName qName) ts qs zs
  pub t_shows : All Graphic tName
  pub q_shows : All Graphic qName

-- THE WRITER'S CHECKS, ONE BY ONE
pub may_write : (r : Chain) (tName qName ts qs zs : List ℕ) → write_check r tName qName ts qs zs ≡ Ok tt → MayWrite r tName qName ts qs zs
unfolding write_check names_show chain_valid fields_fit spans_fit rows_fit row_numbers_fit
may_write r tName qName ts qs zs e =
    let n = r.blockCount in
    let count = require_holds (count_fits n (rows_of ts qs zs)) _ _ e in
    let words = require_holds (names_show tName qName && is_told r.qStrand) _ _ count.1 in
    let numbers = require_holds (fields_fit r && row_numbers_fit (take n ts) (take n qs) (take n zs)) _ _ words.1 in
    let spans = require_holds (spans_fit r) _ _ numbers.1 in
    let rows = require_holds (rows_fit r (take n ts) (take n qs) (take n zs)) _ _ spans.1 in
    let names = both (names_show tName qName) (is_told r.qStrand) words.0 in
    let lengths = both (names_fit (length tName) (length qName)) (all_graphic tName && all_graphic qName) names.0 in
    let shown = both (all_graphic tName) (all_graphic qName) lengths.1 in
    let fields = both (fields_fit r) (row_numbers_fit (take n ts) (take n qs) (take n zs)) numbers.0 in
    let valid : chain_valid (named r tName qName) ts qs zs ≡ true = and_i _ _ count.0 (and_i _ _ lengths.0 (and_i _ _ names.1 (and_i _ _ fields.0 (and_i _ _ fields.1 (and_i _ _ spans.0 rows.0))))) in
    record {
      rules = rules_of (named r tName qName) ts qs zs valid;
      t_shows = all_graphic_lem tName shown.0;
      q_shows = all_graphic_lem qName shown.1;
    }

strand_written : (n : ℕ) (t : Strand) → (t ≡ Dot → ⊥) → Written (Stranded false) n (strand_letter t) (strand_letter t ∷ []) []
strand_written n Plus h = written_lem (Stranded false) [] [] n 0 (strand_letter Plus) 0 refl
strand_written n Minus h = written_lem (Stranded false) [] [] n 0 (strand_letter Minus) 0 refl
strand_written n Dot h = absurd (h refl)

-- the values of a record's thirteen columns; a name means its length, and a fixed word nothing
abbrev pub word_values : Chain → List ℕ → List ℕ → List ℕ
word_values r tName qName =
    0 ∷ r.score ∷ length tName ∷ r.tSize ∷ 0 ∷ r.tStart ∷ r.tEnd ∷ length qName ∷ r.qSize ∷ strand_letter r.qStrand ∷ r.qStart ∷ r.qEnd ∷ r.id ∷ []

-- lines of words, one after the other
module _ (ws : List (List ℕ)) (k : Worded ws) where
  fed_as : (rest : List ℕ) → fed_words ws ++ rest ≡ joined 32 ws ++ (10 ∷ rest)
  fed_as rest = append_assoc (joined 32 ws) (10 ∷ []) rest

  fed_first : (rest : List ℕ) → line_of (fed_words ws ++ rest) ≡ joined 32 ws
  fed_first rest = ap line_of (fed_as rest) ∙ line_joined 32 ws rest refl k

  fed_lines : (rest : List ℕ) → lines_of (fed_words ws ++ rest) ≡ joined 32 ws ∷ lines_of rest
  unfolding lines_of
  fed_lines rest = ap lines_of (fed_as rest) ∙ pieces_join Line (joined 32 ws) 10 rest (joined_in_line 32 ws refl k) refl

  fed_words_lem : words_of (joined 32 ws) ≡ ws
  fed_words_lem = words_joined 32 ws refl k

-- rows from number i on
rows_cons : (k i : ℕ) (xs : List ℕ) → i < length xs → take (suc k) (drop i xs) ≡ get_or xs i 0 ∷ take k (drop (suc i) xs)
rows_cons k i xs h = rw (drop-cons xs i 0 h)

lines_as : {te qe : ℕ} {ls : List (List ℕ)} (t t' q q' : ℕ) {ts qs zs : List ℕ} → t ≡ t' → q ≡ q' → BlockLines te qe ls t q ts qs zs → BlockLines te qe ls t' q' ts qs zs
lines_as t t' q q' a b l = rw (a, b) at l

-- THE BLOCK LINES OF A RECORD SAY ITS ROWS
module _ (r : Chain) (ts qs zs : List ℕ) (c : ChainRules r ts qs zs) where
  abbrev n : ℕ
  n = r.blockCount

  size_row : (i : ℕ) → i < n → Row (Number Size ∷ []) 0 (digits (get_or zs i 0) ∷ []) (get_or zs i 0 ∷ [])
  size_row i h = row_more (written_lem (Number Size) [] [] 0 0 (get_or zs i 0) 0 (c.rows.size_range.low i h, c.rows.size_range.high i h)) row_none

  target_after : (i : ℕ) → suc i < n → get_or ts i 0 + get_or zs i 0 ≤ get_or ts (suc i) 0
  target_after i h = rw (add-one i) at (c.t_blocks.order i (omega arith))

  query_after : (i : ℕ) → suc i < n → get_or qs i 0 + get_or zs i 0 ≤ get_or qs (suc i) 0
  query_after i h = rw (add-one i) at (c.q_blocks.order i (omega arith))

  abbrev dt : ℕ → ℕ
  dt i = gap_to (get_or ts i 0) (get_or zs i 0) (get_or ts (suc i) 0)

  abbrev dq : ℕ → ℕ
  dq i = gap_to (get_or qs i 0) (get_or zs i 0) (get_or qs (suc i) 0)

  gap_row : (i : ℕ) → suc i < n → Row block_columns 0 (gap_words i ts qs zs) (get_or zs i 0 ∷ dt i ∷ dq i ∷ [])
  unfolding block_columns gap_words
  gap_row i h =
      let l : i < n = omega arith in
      let t = c.rows.target_range.high (suc i) h in
      let q = c.rows.query_range.high (suc i) h in
      let a : dt i ≤ largest_position = omega arith in
      let b : dq i ≤ largest_position = omega arith in
      row_more (written_lem (Number Size) [] [] 0 0 (get_or zs i 0) 0 (c.rows.size_range.low i l, c.rows.size_range.high i l))
      (row_more (written_lem (Number Coordinate) [] [] 0 0 (dt i) 0 (zero-le, a))
      (row_more (written_lem (Number Coordinate) [] [] 0 0 (dq i) 0 (zero-le, b))
      row_none))

  last_says : (i : ℕ) → suc i ≡ n → BlockLines r.tEnd r.qEnd (lines_of (block_text 0 i ts qs zs)) (get_or ts i 0) (get_or qs i 0) (take 1 (drop i ts)) (take 1 (drop i qs)) (take 1 (drop i zs))
  unfolding block_text block_columns
  last_says i e =
      let row = size_row i (omega arith) in
      let w = row_worded row in
      let none : fed_words (digits (get_or zs i 0) ∷ []) ++ [] ≡ fed_words (digits (get_or zs i 0) ∷ []) = append_assoc (joined 32 (digits (get_or zs i 0) ∷ [])) (10 ∷ []) [] in
      let ls : lines_of (fed_words (digits (get_or zs i 0) ∷ [])) ≡ joined 32 (digits (get_or zs i 0) ∷ []) ∷ [] = sym (ap lines_of none) ∙ fed_lines (digits (get_or zs i 0) ∷ []) w [] ∙ ap (λ (x : List (List ℕ)). joined 32 (digits (get_or zs i 0) ∷ []) ∷ x) lines_none in
      let sp : Meant (take column.last_count block_columns) 0 (words_of (joined 32 (digits (get_or zs i 0) ∷ []))) (get_or zs i 0 ∷ []) = rw (fed_words_lem (digits (get_or zs i 0) ∷ []) w) (row_spells row) in
      let p : n - 1 ≡ i = omega arith in
      let a : get_or ts i 0 + get_or zs i 0 ≡ r.tEnd = rw p at c.t_blocks.last_end in
      let b : get_or qs i 0 + get_or zs i 0 ≡ r.qEnd = rw p at c.q_blocks.last_end in
      rw (ls, rows_cons 0 i ts (omega (arith, c.rows.target_rows)), rows_cons 0 i qs (omega (arith, c.rows.query_rows)), rows_cons 0 i zs (omega (arith, c.rows.size_rows)))
      (last_line (meant_spells sp) a b)

  more_says : (k i : ℕ) → suc (suc i) + k ≡ n
      → BlockLines r.tEnd r.qEnd (lines_of (block_text k (suc i) ts qs zs)) (get_or ts (suc i) 0) (get_or qs (suc i) 0) (take (suc k) (drop (suc i) ts)) (take (suc k) (drop (suc i) qs)) (take (suc k) (drop (suc i) zs))
      → BlockLines r.tEnd r.qEnd (lines_of (block_text (suc k) i ts qs zs)) (get_or ts i 0) (get_or qs i 0) (take (suc (suc k)) (drop i ts)) (take (suc (suc k)) (drop i qs)) (take (suc (suc k)) (drop i zs))
  unfolding block_text
  more_says k i e b =
      let row = gap_row i (omega arith) in
      let w = row_worded row in
      let sp : Meant block_columns 0 (words_of (joined 32 (gap_words i ts qs zs))) (get_or zs i 0 ∷ dt i ∷ dq i ∷ []) = rw (fed_words_lem (gap_words i ts qs zs) w) (row_spells row) in
      let t = target_after i (omega arith) in
      let q = query_after i (omega arith) in
      let x : get_or ts (suc i) 0 ≡ get_or ts i 0 + get_or zs i 0 + dt i = omega arith in
      let y : get_or qs (suc i) 0 ≡ get_or qs i 0 + get_or zs i 0 + dq i = omega arith in
      rw (fed_lines (gap_words i ts qs zs) w (block_text k (suc i) ts qs zs), rows_cons (suc k) i ts (omega (arith, c.rows.target_rows)), rows_cons (suc k) i qs (omega (arith, c.rows.query_rows)), rows_cons (suc k) i zs (omega (arith, c.rows.size_rows)))
      (more_lines (meant_spells sp) (lines_as _ _ _ _ x y b))

  says : (k i : ℕ) → suc i + k ≡ n → BlockLines r.tEnd r.qEnd (lines_of (block_text k i ts qs zs)) (get_or ts i 0) (get_or qs i 0) (take (suc k) (drop i ts)) (take (suc k) (drop i qs)) (take (suc k) (drop i zs))
  says zero i e = last_says i (omega arith)
  says (suc k) i e = more_says k i (omega arith) (says k (suc i) (omega arith))

  blocks_allowed : (k i : ℕ) → suc i + k ≡ n → All Allowed (block_text k i ts qs zs)
  unfolding block_text
  blocks_allowed zero i e = fed_allowed 32 refl (digits (get_or zs i 0) ∷ []) (row_worded (size_row i (omega arith)))
  blocks_allowed (suc k) i e = all_append Allowed (fed_words (gap_words i ts qs zs)) (block_text k (suc i) ts qs zs) (fed_allowed 32 refl (gap_words i ts qs zs) (row_worded (gap_row i (omega arith)))) (blocks_allowed k (suc i) (omega arith))

-- what a record that may be written reads back as
module _ (r : Chain) (tName qName ts qs zs : List ℕ) (ok : MayWrite r tName qName ts qs zs) where
  abbrev s : List ℕ
  s = chain_text r tName qName ts qs zs

  abbrev m : ℕ
  m = r.blockCount

  abbrev words : List (List ℕ)
  words = head_words r tName qName

  head_row : Row chain_columns 0 words (word_values r tName qName)
  unfolding chain_columns head_words
  head_row =
      let k = ok.rules in
      row_more (written_lem (Word fixed.Chain) [] [] 0 0 0 0 refl)
      (row_more (written_lem (Number ChainScore) [] [] 0 0 r.score 0 (zero-le, k.score_range))
      (row_more (name_written 0 tName k.t_name_some k.t_name_short ok.t_shows)
      (row_more (written_lem (Number Size) [] [] 0 0 r.tSize 0 (k.t_size_some, k.t_size_range))
      (row_more (written_lem (Word fixed.Plus) [] [] 0 0 0 0 refl)
      (row_more (written_lem (Number Coordinate) [] [] 0 0 r.tStart 0 (zero-le, k.t_start_range))
      (row_more (written_lem (Number Coordinate) [] [] 0 0 r.tEnd 0 (zero-le, k.t_end_range))
      (row_more (name_written 0 qName k.q_name_some k.q_name_short ok.q_shows)
      (row_more (written_lem (Number Size) [] [] 0 0 r.qSize 0 (k.q_size_some, k.q_size_range))
      (row_more (strand_written 0 r.qStrand k.stranded)
      (row_more (written_lem (Number Coordinate) [] [] 0 0 r.qStart 0 (zero-le, k.q_start_range))
      (row_more (written_lem (Number Coordinate) [] [] 0 0 r.qEnd 0 (zero-le, k.q_end_range))
      (row_more (written_lem (Number ChainId) [] [] 0 0 r.id 0 (zero-le, k.id_range))
      row_none))))))))))))

  worded : Worded words
  worded = row_worded head_row

  text_first : line_of s ≡ joined 32 words
  unfolding chain_text
  text_first = fed_first words worded (block_text (m - 1) 0 ts qs zs)

  text_lines : lines_of s ≡ line_of s ∷ lines_of (block_text (m - 1) 0 ts qs zs)
  unfolding chain_text
  text_lines = fed_lines words worded (block_text (m - 1) 0 ts qs zs) ∙ ap (λ (l : List ℕ). l ∷ lines_of (block_text (m - 1) 0 ts qs zs)) (sym text_first)

  text_words : words_of (line_of s) ≡ words
  text_words = ap words_of text_first ∙ fed_words_lem words worded

  text_allowed : run Allowed s ≡ length s
  unfolding chain_text
  text_allowed = all_append Allowed (fed_words words) (block_text (m - 1) 0 ts qs zs) (fed_allowed 32 refl words worded) (blocks_allowed (named r tName qName) ts qs zs ok.rules (m - 1) 0 (omega (arith, ok.rules.rows.some_block)))

  text_word : (k : ℕ) → bytes_of s (word_at s 0 k) ≡ get_or words k []
  text_word k = word_bytes s 0 k ∙ ap (λ (x : List (List ℕ)). get_or x k []) text_words

  all_rows : suc (m - 1) ≡ m
  all_rows = omega (arith, ok.rules.rows.some_block)

  text_blocks : BlockLines r.tEnd r.qEnd (lines_of (block_text (m - 1) 0 ts qs zs)) r.tStart r.qStart (take m ts) (take m qs) (take m zs)
  text_blocks =
      let k = ok.rules in
      lines_as _ _ _ _ k.t_blocks.first_start k.q_blocks.first_start (rw all_rows at (says (named r tName qName) ts qs zs k (m - 1) 0 (omega (arith, k.rows.some_block))))

  text_read : length s ≤ text_limit → ChainText s (word_values r tName qName) (lines_of (block_text (m - 1) 0 ts qs zs)) (placed s r) (take m ts) (take m qs) (take m zs)
  unfolding placed
  text_read short =
      let k = ok.rules in
      let head-words : Meant chain_columns 0 (words_of (line_of s)) (word_values r tName qName) = rw text_words (row_spells head_row) in
      record {
        short = short;
        allowed = text_allowed;
        lines = text_lines;
        lists = _;
        spelt = meant_spells head-words;
        score = refl;
        tName = refl;
        tSize = refl;
        tStart = refl;
        tEnd = refl;
        qName = refl;
        qSize = refl;
        qStrand = refl;
        qStart = refl;
        qEnd = refl;
        id = refl;
        t_span = k.t_span;
        t_inside = k.t_inside;
        q_span = k.q_span;
        q_inside = k.q_inside;
        blocks = text_blocks;
        count = length-take-le m zs k.rows.size_rows;
        few = k.rows.few_blocks;
      }

  t_name_read : part_bytes s (placed s r).tName ≡ tName
  unfolding placed head_words
  t_name_read = part_bytes_lem s (word_at s 0 column.t_name) ∙ text_word column.t_name

  q_name_read : part_bytes s (placed s r).qName ≡ qName
  unfolding placed head_words
  q_name_read = part_bytes_lem s (word_at s 0 column.q_name) ∙ text_word column.q_name

-- THE ROUND TRIP: the writer's checks hold, and the text is short enough
module _ (r : Chain) (tName qName ts qs zs : List ℕ) (ok : write_check r tName qName ts qs zs ≡ Ok tt) (short : length (chain_text r tName qName ts qs zs) ≤ text_limit) where
  abbrev text : List ℕ
  text = chain_text r tName qName ts qs zs

  may : MayWrite r tName qName ts qs zs
  may = may_write r tName qName ts qs zs ok

  read : ChainText text (word_values r tName qName) (lines_of (block_text (r.blockCount - 1) 0 ts qs zs)) (placed text r) (take r.blockCount ts) (take r.blockCount qs) (take r.blockCount zs)
  read = text_read r tName qName ts qs zs may short

  pub back_check : chain_check text ≡ Ok (placed text r)
  back_check = text_is text _ _ (placed text r) _ _ _ read

  pub back_target_name : part_bytes text (placed text r).tName ≡ tName
  back_target_name = t_name_read r tName qName ts qs zs may

  pub back_query_name : part_bytes text (placed text r).qName ≡ qName
  back_query_name = q_name_read r tName qName ts qs zs may

  pub back_targets : chain_targets text (placed text r) ≡ take r.blockCount ts
  back_targets = sym (text_targets text _ _ (placed text r) _ _ _ read)

  pub back_queries : chain_queries text (placed text r) ≡ take r.blockCount qs
  back_queries = sym (text_queries text _ _ (placed text r) _ _ _ read)

  pub back_sizes : chain_sizes text (placed text r) ≡ take r.blockCount zs
  back_sizes = sym (text_sizes text _ _ (placed text r) _ _ _ read)

  -- and with room for its blocks the text is read
  pub back_read : (room : ℕ) → r.blockCount ≤ room → chain_read text room ≡ Ok (placed text r)
  unfolding chain_read chain_roomed placed
  back_read room h = rw (checked_of text (placed text r) back_check, le-leb r.blockCount room h)
