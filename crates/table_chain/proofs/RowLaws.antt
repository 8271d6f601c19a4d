-- Chains over a table of rows: the staged rows give the same answers as the table. Assumes nothing.
use mathlib.Core.Path.{◌≡◌, refl, sym, ap, subst, ◌∙◌}
use mathlib.Core.Bool.{Bool, ◌&&◌}
use mathlib.Core.List.{List, [], ◌∷◌, ◌++◌}
use Prim.Native.Nat.{ℕ, zero, suc, ◌+◌, ◌-◌, ◌≤◌, ◌<◌, min}
use native.Mathlib.Omega.{arith}
use lib.ListN.{length, take, get_or}
use lib.Seq.{get_or-take}
use borrow.Author.Tests.{le-leb, lt-leb}
use borrow.Rule.Slice.PartMut.{put_mid}
use Rattle.blocks.specs.Readers.{rows_after}
use Rattle.chain.proofs.AnswerLaws.{read_checked}
use Rattle.ledger.specs.Limits.{block_limit}
use Rattle.ledger.specs.declared.Row.{Row}
use Rattle.ledger.specs.declared.Refusal.{Refusal}
use Rattle.ledger.specs.declared.Reason.TheVariants.{NumberOutOfRange, BadWord, SpanDisagrees, BlockRules, NoRoom}
use Rattle.ledger.specs.Refusals.{require, fault_at, refusal_at}
use Rattle.text.specs.Checks.{refused}
use Rattle.writing.specs.Digits.{digits}
use Rattle.blocks.specs.Blocks.{row_numbers_fit}
use Rattle.blocks.specs.Rows.{targets_of, queries_of, sizes_of}
use Rattle.rows.specs.Staging.{all_reach, Loaded, Columns, stored_rows}
use Rattle.rows.proofs.StagingLaws.{loaded_targets, loaded_queries, loaded_sizes, cut_rows, rows_cut}
use Rattle.rows.proofs.ReaderLaws.{Reads, columns_is, columns_held, rows_accepted, rows_refused}
use Rattle.rows.proofs.WriterLaws.{written_cut, kept_cut}
use Rattle.chain.specs.declared.Chain.{Chain}
use Rattle.chain.specs.Records.{chain_targets, chain_queries, chain_sizes}
use Rattle.chain.specs.Read.{on_answer, chain_check, chain_read, ChainRead}
use Rattle.ledger.specs.Strands.{is_told}
use Rattle.chain.specs.Tests.{names_fit, fields_fit, spans_fit, rows_fit, chain_valid}
use Rattle.chain.specs.Write.{names_show, write_check, head_words, fed_words, gap_to, gap_words, block_text, chain_text, chain_write, ChainWrote, record_check}
use Rattle.chain_laws.proofs.TextLaws.{text_of_lem}
use Rattle.chain_laws.proofs.ValidLaws.{lines_target_count, lines_query_count}
use Rattle.table_chain.specs.Rows.{table_after, RowsRead, rows_filled, ColumnsRead}
use Rattle.columns.specs.Lines.{then_write}
use Rattle.std.specs.Prelude.{Ok, Err, Result, ⊤}

-- the reader as one of any format
pub by_answer : (a : Result Chain Refusal) (P : Type 0) → ((r : Chain) → a ≡ Ok r → P) → ((x : Refusal) → a ≡ Err x → P) → P
by_answer (Ok r) P f g = f r refl
by_answer (Err x) P f g = g x refl

pub chain_reads : (s : List ℕ) → Reads Ok Err (λ (r : Chain). r.blockCount) rows_filled (chain_check s) (chain_read s) (refusal_at (fault_at NoRoom (length s))) (chain_targets s) (chain_queries s) (chain_sizes s)
chain_reads s = record {
  cases = by_answer;
  apart = λ r x e. absurd (let z : ◌≡◌ {A = ℕ} 0 1 = cc in omega arith);
  filled_by = λ r. refl;
  filled_none = λ x. refl;
  roomy = λ r room k h. read_checked s room ∙ rw (k, le-leb r.blockCount room h);
  short = λ r room k h. read_checked s room ∙ rw (k, lt-leb r.blockCount room h);
  refused = λ x room k. read_checked s room ∙ rw k;
  few = λ r ok. (text_of_lem s r ok).few;
  targets = λ r ok. lines_target_count (text_of_lem s r ok).blocks ∙ (text_of_lem s r ok).count;
  queries = λ r ok. lines_query_count (text_of_lem s r ok).blocks ∙ (text_of_lem s r ok).count;
  sizes = λ r ok. (text_of_lem s r ok).count;
}

-- reading into three columns
pub columns_read : (s ts qs zs t q z : List ℕ) (rows n : ℕ) (x : Result Chain Refusal) → Columns ts qs zs → n ≡ min rows block_limit
    → ChainRead s (take n ts) t (take n qs) q (take n zs) z x → ColumnsRead s rows (put_mid 0 n ts t) (put_mid 0 n qs q) (put_mid 0 n zs z) x
columns_read s ts qs zs t q z rows n x room e h = record {
  is = columns_is (chain_reads s) ts qs zs t q z rows n x room e h.is;
  held = λ r k. columns_held (chain_reads s) ts qs zs t q z rows n x room e h.is r k
      (h.targets ∙ ap (λ (y : Result Chain Refusal). rows_after on_answer y (chain_targets s) (take n ts)) k)
      (h.queries ∙ ap (λ (y : Result Chain Refusal). rows_after on_answer y (chain_queries s) (take n qs)) k)
      (h.sizes ∙ ap (λ (y : Result Chain Refusal). rows_after on_answer y (chain_sizes s) (take n zs)) k);
}

-- the table after the rows of an answer were stored
pub rows_read : (s ts qs zs : List ℕ) (before after : List Row) (n : ℕ) (x : Result Chain Refusal) → ColumnsRead s (length before) ts qs zs x → n ≡ rows_filled x
    → after ≡ stored_rows n ts qs zs before → RowsRead s before after x
rows_read s ts qs zs before after n x h e k = record {
  is = h.is;
  rows = by_answer x _
      (λ r l. rows_accepted (chain_reads s) ts qs zs before after n x h.held e k r l ∙ ap (λ (y : Result Chain Refusal). table_after y s before) (sym l))
      (λ w l. rows_refused (chain_reads s) ts qs zs before after n x h.held e k w l ∙ ap (λ (y : Result Chain Refusal). table_after y s before) (sym l));
}

pub filled_accepted : (a : Result Chain Refusal) (r : Chain) → a ≡ Ok r → r.blockCount ≡ rows_filled a
filled_accepted a r e = rw e

-- THE RECORD CHECKER, as it looks at the rows in use
abbrev pub check_seen : Chain → Bool → List ℕ → List ℕ → List ℕ → Result ⊤ Refusal
check_seen r t ts qs zs =
    require (t && (names_fit r.tName.length r.qName.length && (is_told r.qStrand && (fields_fit r && (row_numbers_fit ts qs zs && (spans_fit r && rows_fit r ts qs zs)))))) (refused BlockRules) (Ok tt)

check_cut : (r : Chain) (rows : List Row) → record_check r (targets_of (cut_rows rows)) (queries_of (cut_rows rows)) (sizes_of (cut_rows rows)) ≡ record_check r (targets_of rows) (queries_of rows) (sizes_of rows)
unfolding record_check chain_valid
check_cut r rows = rows_cut (check_seen r) (λ a b c d e f. refl) r.blockCount rows

pub columns_checked : (r : Chain) (ts qs zs : List ℕ) (rows n : ℕ) (x : Result ⊤ Refusal) → n ≡ min rows block_limit → x ≡ record_check r (take n ts) (take n qs) (take n zs)
    → x ≡ record_check r (take (min rows block_limit) ts) (take (min rows block_limit) qs) (take (min rows block_limit) zs)
columns_checked r ts qs zs rows n x e h = h ∙ ap (λ (m : ℕ). record_check r (take m ts) (take m qs) (take m zs)) e

-- THE WRITER: its text is made of the rows in use
module _ (n : ℕ) (ts qs zs : List ℕ) where
  at : (l : List ℕ) (i : ℕ) → i < n → get_or l i 0 ≡ get_or (take n l) i 0
  at l i h = sym (get_or-take n l i 0 h)

  blocks_front : (k i : ℕ) → i + k < n → block_text k i ts qs zs ≡ block_text k i (take n ts) (take n qs) (take n zs)
  unfolding block_text gap_words
  blocks_front zero i h = ap (λ (z : ℕ). fed_words (digits z ∷ [])) (at zs i (omega arith))
  blocks_front (suc k) i h =
      let a = at zs i (omega arith) in
      let b = at ts i (omega arith) in
      let c = at qs i (omega arith) in
      let d = at ts (suc i) (omega arith) in
      let e = at qs (suc i) (omega arith) in
      rw (← a, ← b, ← c, ← d, ← e) (ap (λ (l : List ℕ). fed_words (digits (get_or zs i 0) ∷ digits (gap_to (get_or ts i 0) (get_or zs i 0) (get_or ts (suc i) 0)) ∷ digits (gap_to (get_or qs i 0) (get_or zs i 0) (get_or qs (suc i) 0)) ∷ []) ++ l) (blocks_front k (suc i) (omega arith)))

text_front : (r : Chain) (tName qName ts qs zs : List ℕ) → 1 ≤ r.blockCount → chain_text r tName qName ts qs zs ≡ chain_text r tName qName (take r.blockCount ts) (take r.blockCount qs) (take r.blockCount zs)
unfolding chain_text
text_front r tName qName ts qs zs h = ap (λ (l : List ℕ). fed_words (head_words r tName qName) ++ l) (blocks_front r.blockCount ts qs zs (r.blockCount - 1) 0 (omega arith))

module _ (r : Chain) (tName qName : List ℕ) where
  -- the checks after the count of rows
  abbrev rest : List ℕ → List ℕ → List ℕ → Result ⊤ Refusal
  rest ts qs zs =
      require (names_show tName qName && is_told r.qStrand) (refused BadWord)
      (require (fields_fit r && row_numbers_fit ts qs zs) (refused NumberOutOfRange) (require (spans_fit r) (refused SpanDisagrees) (require (rows_fit r ts qs zs) (refused BlockRules) (Ok tt))))

  wrote_cut : (rows : List Row) (before after : List ℕ) (x : Result ℕ Refusal) → ChainWrote r tName qName (targets_of (cut_rows rows)) (queries_of (cut_rows rows)) (sizes_of (cut_rows rows)) before after x
      → ChainWrote r tName qName (targets_of rows) (queries_of rows) (sizes_of rows) before after x
  unfolding chain_write write_check
  wrote_cut rows before after x h = record {
    is = h.is ∙ written_cut r.blockCount rest (chain_text r tName qName) then_write (λ y w. refl) (text_front r tName qName) rows (length before);
    left = kept_cut r.blockCount rest (chain_text r tName qName) then_write (λ y w. refl) (text_front r tName qName) rows before after x h.is h.left;
  }

pub columns_wrote : (r : Chain) (tName qName ts qs zs before after : List ℕ) (rows n : ℕ) (x : Result ℕ Refusal) → n ≡ min rows block_limit → ChainWrote r tName qName (take n ts) (take n qs) (take n zs) before after x
    → ChainWrote r tName qName (take (min rows block_limit) ts) (take (min rows block_limit) qs) (take (min rows block_limit) zs) before after x
columns_wrote r tName qName ts qs zs before after rows n x e h = subst (λ (m : ℕ). ChainWrote r tName qName (take m ts) (take m qs) (take m zs) before after x) e h

-- the record checker and the writer on the rows that were loaded
module _ (rows : List Row) (ts ts' qs qs' zs zs' : List ℕ) (room : Columns ts qs zs) (h : Loaded (all_reach (length rows) ts qs zs) rows ts ts' qs qs' zs zs') where
  abbrev part : ℕ
  part = min (length rows) block_limit

  pub rows_checked : (r : Chain) (x : Result ⊤ Refusal) → x ≡ record_check r (take part ts') (take part qs') (take part zs') → x ≡ record_check r (targets_of rows) (queries_of rows) (sizes_of rows)
  rows_checked r x e = (rw (loaded_targets rows ts ts' qs qs' zs zs' room h, loaded_queries rows ts ts' qs qs' zs zs' room h, loaded_sizes rows ts ts' qs qs' zs zs' room h) at e) ∙ check_cut r rows

  pub rows_wrote : (r : Chain) (tName qName before after : List ℕ) (x : Result ℕ Refusal) → ChainWrote r tName qName (take part ts') (take part qs') (take part zs') before after x
      → ChainWrote r tName qName (targets_of rows) (queries_of rows) (sizes_of rows) before after x
  rows_wrote r tName qName before after x e =
      wrote_cut r tName qName rows before after x
      (rw (loaded_targets rows ts ts' qs qs' zs zs' room h, loaded_queries rows ts ts' qs qs' zs zs' room h, loaded_sizes rows ts ts' qs qs' zs zs' room h) at e)
