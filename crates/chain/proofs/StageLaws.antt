-- The stages of reading a chain: one that stops at a fault, and one that goes on. Assumes nothing.
use mathlib.Core.Path.{◌≡◌, refl, sym, ap, ◌∙◌}
use mathlib.Core.Bool.{false}
use mathlib.Core.List.{List, [], ◌∷◌}
use Prim.Native.Nat.{ℕ, ◌-◌, ◌*◌, ◌+◌, ◌≤◌, ◌<◌}
use native.Mathlib.Omega.{arith}
use lib.ListN.{length, replicate, get_or, take, drop}
use lib.Seq.{sets}
use Rattle.ledger.specs.Limits.{block_limit, largest_position}
use Rattle.ledger.specs.declared.Reason.TheVariants.{NoRoom}
use Rattle.ledger.specs.declared.Fault.{Fault}
use Rattle.ledger.specs.Refusals.{fault_at}
use Rattle.text.specs.Checks.{then_check, text_check, last_line_check}
use Rattle.text.specs.Pieces.{words_of, line_of}
use Rattle.text.specs.Steps.{Staged}
use Rattle.text.specs.Words.{next_line, word_count}
use Rattle.text.proofs.Laws.{next_as}
use Rattle.text.proofs.StageLaws.{went, staged_stops, staged_goes}
use Rattle.kinds.specs.declared.Range.TheVariants.{Coordinate, Size, ChainScore, ChainId}
use Rattle.kinds.specs.declared.Fixed.TheVariants as fixed
use Rattle.kinds.specs.declared.Kind.{Kind}
use Rattle.kinds.specs.declared.Kind.TheVariants.{Name, Number, Stranded, Word}
use Rattle.kinds.proofs.RangeLaws.{number_spelt}
use Rattle.columns.specs.Columns.{table_of, columns_from, values_from, value_of, place_of, then_next, ColumnsWalked}
use Rattle.columns.specs.OneLine.{count_check, WordsWalked}
use Rattle.columns.specs.Spells.{firsts}
use Rattle.columns.proofs.Meant.{Meant}
use Rattle.columns.proofs.SpellsLaws.{columns_mean}
use Rattle.columns.proofs.PlaceLaws.{spelt_at, value_first}
use Rattle.columns.proofs.OneLineLaws.{count_of_lem, count_is}
use Rattle.columns.proofs.WalkLaws.{walk_through}
use Rattle.columns.proofs.TableLaws as table
use Rattle.blocks.specs.Blocks.{rows_of}
use Rattle.blocks.proofs.StoreLaws.{room_short, room_enough, rows_left, rows_stored, rows_told}
use Rattle.blocks.proofs.TakeLaws.{part_all}
use Rattle.chain.specs.declared.Chain.{Chain}
use Rattle.chain.specs.declared.Ending.{Ending}
use Rattle.chain.specs.declared.Head.{Head}
use Rattle.chain.specs.Columns as column
use Rattle.chain.specs.Table.{chain_columns}
use Rattle.chain.specs.Records.{chain_record, chain_targets, chain_queries, chain_sizes}
use Rattle.chain.specs.Read.{span_check, fill_check, after_last, after_lines, after_spans, after_columns, after_words, after_text, chain_stages, chain_answer, chain_check, on_reading, on_answer, chain_roomed, chain_read, Held, InRoom, ChainRead}
use Rattle.chain.specs.Steps.{Walked, Headed, HeadTaken, RowsStored, BlocksRead}
use Rattle.chain.proofs.AnswerLaws.{read_apart, told_read, told_same}
use Rattle.std.specs.Prelude.{Ok, Err, Result, Option, Some, ⊤}
use Rattle.ledger.specs.declared.Refusal.{Refusal}

-- the kinds of the header's table in the code
abbrev pub chain_kinds : List Kind
chain_kinds =
    Word fixed.Chain
    ∷ Number ChainScore
    ∷ Name
    ∷ Number Size
    ∷ Word fixed.Plus
    ∷ Number Coordinate
    ∷ Number Coordinate
    ∷ Name
    ∷ Number Size
    ∷ Stranded false
    ∷ Number Coordinate
    ∷ Number Coordinate
    ∷ Number ChainId
    ∷ []

pub table_is : table_of chain_kinds ≡ chain_columns
unfolding chain_columns
table_is = table.table_is chain_kinds (omega arith) column.header_count (omega arith)

-- the blocks, and a surplus line
module _ (s vs : List ℕ) (e : Ending) (c : Result ⊤ Fault) where
  module _ (r : Chain) (er : r ≡ chain_record vs e.count) (ec : c ≡ fill_check s r e) where
    pub last_faulty : (x : Fault) → c ≡ Err x → Err x ≡ after_last s vs e
    unfolding after_last
    last_faulty x q = rw (← er, ← ec, q)

    pub last_read : c ≡ Ok tt → Ok r ≡ after_last s vs e
    unfolding after_last
    last_read q = rw (← er, ← ec, q)

  module _ (ec : c ≡ last_line_check s e.line) where
    pub lines_faulty : (x : Fault) → c ≡ Err x → Err x ≡ after_lines s vs e
    unfolding after_lines
    lines_faulty x q = rw (← ec, q)

    pub lines_on : (a : Result Chain Fault) → c ≡ Ok tt → a ≡ after_last s vs e → a ≡ after_lines s vs e
    unfolding after_lines
    lines_on a q h = rw (← ec, q) h

-- a record that the last stages read is the header's with the number of blocks
pub lines_record : (s vs : List ℕ) (e : Ending) (b : Chain) → after_lines s vs e ≡ Ok b → chain_record vs e.count ≡ b
unfolding after_lines after_last
lines_record s vs e b q =
    let r = chain_record vs e.count in
    let h = went Err (last_line_check s e.line) (then_check Err (fill_check s r e) (Ok r)) (Ok b) (read_apart b) q in
    let k : Ok r ≡ Ok b = (went Err (fill_check s r e) (Ok r) (Ok b) (read_apart b) h.1).1 in
    cc

-- the block lines
module _ (s vs rows rows' : List ℕ) (end : ℕ) (headed : Headed s end vs rows) (from t q : ℕ) (first : from ≡ next_line s end) (et : t ≡ value_of vs column.t_start) (eq : q ≡ value_of vs column.q_start) (x : Result Ending Fault) (walked : Walked s from t q rows rows' x) where
  ef : from ≡ next_line s 0
  ef = first ∙ next_as s end 0 headed.line

  pub spans_faulty : (y : Fault) → x ≡ Err y → Staged Ok (Held s) (after_spans s vs) rows' (Err y)
  unfolding after_spans
  spans_faulty y k = staged_stops Err read_apart y (rw (← ef, ← et, ← eq, ← walked.is, k))

  placed : (e : Ending) → x ≡ Ok e → Held s (chain_record vs e.count) rows'
  unfolding chain_record chain_targets chain_queries chain_sizes
  placed e k =
      let p = walked.held e k in
      record {
        long = walked.long;
        few = p.few;
        targets = rw (← ef, ← et) p.targets;
        queries = rw (← ef, ← eq) p.queries;
        sizes = rw (← ef) p.sizes;
      }

  pub spans_on : (e : Ending) (a : Result Chain Fault) → x ≡ Ok e → a ≡ after_lines s vs e → Staged Ok (Held s) (after_spans s vs) rows' a
  unfolding after_spans
  spans_on e a k h = record {
    is = rw (← ef, ← et, ← eq, ← walked.is, k) h;
    held = λ b z. rw (lines_record s vs e b (sym h ∙ z)) at (placed e k);
  }

module _ (s vs l : List ℕ) (c : Result ⊤ Fault) (r : Chain) (er : r ≡ chain_record vs 0) (ec : c ≡ span_check r vs) where
  pub columns_faulty : (x : Fault) → c ≡ Err x → Staged Ok (Held s) (after_columns s vs) l (Err x)
  unfolding after_columns
  columns_faulty x q = staged_stops Err read_apart x (rw (← er, ← ec, q))

  pub columns_on : (a : Result Chain Fault) → c ≡ Ok tt → Staged Ok (Held s) (after_spans s vs) l a → Staged Ok (Held s) (after_columns s vs) l a
  unfolding after_columns
  columns_on a q h = staged_goes a (rw (← er, ← ec, q)) h

-- a record and its checks depend on the values at their places alone
module _ (a b : List ℕ) (same : (i : ℕ) → get_or a i 0 ≡ get_or b i 0) where
  value_same : (k : ℕ) → value_of a k ≡ value_of b k
  value_same k = same (2 * k)

  place_same : (k : ℕ) → place_of a k ≡ place_of b k
  place_same k = same (2 * k + 1)

  pub record_same : (n : ℕ) → chain_record a n ≡ chain_record b n
  unfolding chain_record
  record_same n = rw (
    value_same column.score,
    place_same column.t_name,
    value_same column.t_name,
    value_same column.t_size,
    value_same column.t_start,
    value_same column.t_end,
    place_same column.q_name,
    value_same column.q_name,
    value_same column.q_size,
    value_same column.q_strand,
    value_same column.q_start,
    value_same column.q_end,
    value_same column.id,
  )

  lines_same : (s : List ℕ) (e : Ending) → after_lines s a e ≡ after_lines s b e
  unfolding after_lines after_last
  lines_same s e = rw (record_same e.count)

  pub columns_same : (s : List ℕ) → after_columns s a ≡ after_columns s b
  unfolding after_columns after_spans span_check
  columns_same s = rw (record_same 0, value_same column.t_start, value_same column.q_start, place_same column.t_end, place_same column.q_end) (simp (lines_same s))

-- the header's columns
module _ (s : List ℕ) (e : ℕ) (count : word_count s 0 ≡ column.header_count) (read : columns_from chain_columns 0 s 0 ≡ Ok e) where
  abbrev vs : List ℕ
  vs = values_from chain_columns 0 s 0

  pub head_spells : Meant chain_columns 0 (words_of (line_of s)) (firsts vs)
  unfolding chain_columns
  head_spells = columns_mean chain_columns 0 s 0 e count read

  pub target_low : value_of vs column.t_start ≤ largest_position
  unfolding chain_columns
  target_low = rw (← value_first vs column.t_start) (number_spelt Coordinate _ _ _ (spelt_at head_spells column.t_start (omega arith))).1

  pub query_low : value_of vs column.q_start ≤ largest_position
  unfolding chain_columns
  query_low = rw (← value_first vs column.q_start) (number_spelt Coordinate _ _ _ (spelt_at head_spells column.q_start (omega arith))).1

-- the number of words and the columns in one walk
line_then : (c : Result ⊤ Fault) (rest : Result ℕ Fault) (e : ℕ) → then_check Err c rest ≡ Ok e → (c ≡ Ok tt) × (rest ≡ Ok e)
line_then c rest e = went Err c rest (Ok e) (λ x q. let z : ◌≡◌ {A = ℕ} 0 1 = cc in omega arith)

line_faulty : (c : Result ⊤ Fault) (d : Result ℕ Fault) (y : Fault) (rest : Result Chain Fault) → then_check Err c d ≡ Err y → Err y ≡ then_check Err c (then_next Err d rest)
line_faulty (Ok tt) (Ok e) y rest q = absurd (let z : ◌≡◌ {A = ℕ} 0 1 = cc in omega arith)
line_faulty (Ok tt) (Err x) y rest q = cc
line_faulty (Err x) d y rest q = cc

module _ (s rows b' d d' : List ℕ) (long : length rows ≡ 3 * block_limit) (x : Result ℕ Fault) (read : WordsWalked (table_of chain_kinds) s (replicate (2 * column.header_count) 0) b' d d' x) where
  read_is : x ≡ then_check Err (count_check s 0 column.header_count) (columns_from chain_columns 0 s 0)
  unfolding chain_columns
  read_is = rw table_is at read.result

  module _ (e : ℕ) (q : x ≡ Ok e) where
    both_read : (count_check s 0 column.header_count ≡ Ok tt) × (columns_from chain_columns 0 s 0 ≡ Ok e)
    both_read = line_then (count_check s 0 column.header_count) (columns_from chain_columns 0 s 0) e (sym read_is ∙ q)

    walked : ColumnsWalked (table_of chain_kinds) s 0 (replicate (2 * column.header_count) 0) b' d d' (Ok e)
    walked = record { result = rw table_is (sym both_read.1); stored = λ f p. read.stored e q; held = λ f p. read.held e q }

    values_same : (i : ℕ) → get_or b' i 0 ≡ get_or (values_from chain_columns 0 s 0) i 0
    unfolding chain_columns
    values_same = table.values_same chain_kinds (omega arith) column.header_count (omega arith) s 0 (2 * column.header_count) (omega arith) b' d d' (Ok e) walked e refl

    pub words_headed : Headed s e b' rows
    words_headed =
        let count = count_of_lem s 0 column.header_count both_read.0 in
        record {
          line = read.line e q;
          target = rw (values_same (2 * column.t_start)) (target_low s e count both_read.1);
          query = rw (values_same (2 * column.q_start)) (query_low s e count both_read.1);
          long = long;
        }

    pub words_on : (l : List ℕ) (a : Result Chain Fault) → Staged Ok (Held s) (after_columns s b') l a → Staged Ok (Held s) (after_text s) l a
    unfolding after_text after_words
    words_on l a h = staged_goes a (rw (both_read.0, both_read.1) (columns_same b' (values_from chain_columns 0 s 0) values_same s)) h

  pub words_faulty : (l : List ℕ) (y : Fault) → x ≡ Err y → Staged Ok (Held s) (after_text s) l (Err y)
  unfolding after_text after_words
  words_faulty l y q =
      staged_stops Err read_apart y (line_faulty (count_check s 0 column.header_count) (columns_from chain_columns 0 s 0) y (after_columns s (values_from chain_columns 0 s 0)) (sym read_is ∙ q))

-- the header taken in one pass
module _ (s : List ℕ) (r : Option Head) (taken : HeadTaken s r) (x : Head) (g : r ≡ Some x) where
  pub head_headed : (rows : List ℕ) → length rows ≡ 3 * block_limit → Headed s x.end x.values rows
  head_headed rows long =
      let count = taken.count x g in
      let read = taken.read x g in
      record {
        line = (walk_through chain_columns 0 s 0 x.end read).line;
        target = rw (← (taken.values x g)) (target_low s x.end count read);
        query = rw (← (taken.values x g)) (query_low s x.end count read);
        long = long;
      }

  pub head_on : (l : List ℕ) (a : Result Chain Fault) → Staged Ok (Held s) (after_columns s x.values) l a → Staged Ok (Held s) (after_text s) l a
  unfolding after_text after_words
  head_on l a h = staged_goes a (rw (count_is s 0 column.header_count (taken.count x g), taken.read x g, taken.values x g)) h

module _ (s : List ℕ) (c : Result ⊤ Fault) (ec : c ≡ text_check s) where
  pub text_faulty : (l : List ℕ) (x : Fault) → c ≡ Err x → Staged Ok (Held s) (chain_stages s) l (Err x)
  unfolding chain_stages
  text_faulty l x q = staged_stops Err read_apart x (rw (← ec, q))

  pub text_on : (l : List ℕ) (a : Result Chain Fault) → c ≡ Ok tt → Staged Ok (Held s) (after_text s) l a → Staged Ok (Held s) (chain_stages s) l a
  unfolding chain_stages
  text_on l a q h = staged_goes a (rw (← ec, q)) h

-- storing the rows
module _ (s : List ℕ) (r : Chain) (l ts qs zs : List ℕ) (held : Held s r l) (room : ℕ) (er : room ≡ rows_of ts qs zs) where
  pub store_short : room < r.blockCount → RowsStored s r ts ts qs qs zs zs (Err (fault_at NoRoom (length s)))
  store_short h = rows_left on_reading _ (chain_targets s) (chain_queries s) (chain_sizes s) ts qs zs (Err (fault_at NoRoom (length s))) (λ X f y. refl) (rw er at (room_short Err s r.blockCount room (Ok r) h))

  pub store_all : (ts' qs' zs' : List ℕ) → r.blockCount ≤ room → ts' ≡ sets ts 0 (take r.blockCount l)
      → qs' ≡ sets qs 0 (take r.blockCount (take (length l - block_limit) (drop block_limit l)))
      → zs' ≡ sets zs 0 (take r.blockCount (take (length l - 2 * block_limit) (drop (2 * block_limit) l))) → RowsStored s r ts ts' qs qs' zs zs' (Ok r)
  store_all ts' qs' zs' h et eq ez =
      rows_stored on_reading _ (chain_targets s) (chain_queries s) (chain_sizes s) ts qs zs (Ok r) r (λ X f y. refl) (rw er at (room_enough Err s r.blockCount room (Ok r) h)) ts' qs' zs'
      (et ∙ ap (sets ts 0) held.targets)
      (eq ∙ ap (λ (x : List ℕ). sets qs 0 (take r.blockCount x)) (part_all l block_limit) ∙ ap (sets qs 0) held.queries)
      (ez ∙ ap (λ (x : List ℕ). sets zs 0 (take r.blockCount x)) (part_all l (2 * block_limit)) ∙ ap (sets zs 0) held.sizes)

-- the checks, then the rows
module _ (s ts qs zs l : List ℕ) (x : Result Chain Fault) (staged : Staged Ok (Held s) (chain_stages s) l x) where
  pub read_faulty : (y : Fault) → x ≡ Err y → BlocksRead s ts ts qs qs zs zs (Err y)
  unfolding chain_roomed
  read_faulty y q = record { is = rw (← staged.is, q); targets = refl; queries = refl; sizes = refl }

  pub read_staged : (r : Chain) → x ≡ Ok r → Held s r l
  read_staged r q = staged.held r q

  pub read_stored : (r : Chain) (ts' qs' zs' : List ℕ) (a : Result Chain Fault) → x ≡ Ok r → RowsStored s r ts ts' qs qs' zs zs' a → BlocksRead s ts ts' qs qs' zs zs' a
  unfolding chain_roomed
  read_stored r ts' qs' zs' a q h = record { is = rw (← staged.is, q) h.is; targets = h.targets; queries = h.queries; sizes = h.sizes }

-- what a caller is told
pub read_told : (s ts ts' qs qs' zs zs' : List ℕ) (x : Result Chain Fault) (a : Result Chain Refusal) → BlocksRead s ts ts' qs qs' zs zs' x → a ≡ chain_answer x → ChainRead s ts ts' qs qs' zs zs' a
unfolding chain_read
read_told s ts ts' qs qs' zs zs' x a h e =
    rw e (rows_told on_reading on_answer chain_answer told_same (chain_roomed s (rows_of ts qs zs)) (chain_targets s) (chain_queries s) (chain_sizes s) ts ts' qs qs' zs zs' x h)

module _ (s l : List ℕ) (x : Result Chain Fault) (a : Result Chain Refusal) (staged : Staged Ok (Held s) (chain_stages s) l x) (e : a ≡ chain_answer x) where
  pub check_told : a ≡ chain_check s
  unfolding chain_check
  check_told = e ∙ ap chain_answer staged.is

  pub room_told : (rows : List ℕ) → InRoom s rows l a
  room_told rows = record { is = check_told; held = λ n b q. staged.held b (told_read x b (sym e ∙ q)) }

-- the reader into working room of another length
pub room_other : (s rows : List ℕ) (x : Result Chain Refusal) → (length rows ≡ 3 * block_limit → ⊥) → x ≡ chain_check s → InRoom s rows rows x
room_other s rows x n h = record { is = h; held = λ l. absurd (n l) }
