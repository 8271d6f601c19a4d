-- PSL lines over a table of rows: the staged rows give the same answers as the table. Assumes nothing.
use mathlib.Core.Path.{◌≡◌, refl, sym, ap, subst, ◌∙◌}
use mathlib.Core.Bool.{Bool, ◌&&◌}
use mathlib.Core.List.{List}
use Prim.Native.Nat.{ℕ, ◌≤◌, min}
use native.Mathlib.Omega.{arith}
use lib.ListN.{length, take}
use lib.Seq.{take-take}
use borrow.Rule.Slice.PartMut.{put_mid}
use Rattle.blocks.specs.Readers.{rows_after}
use Rattle.psl_laws.proofs.CheckedLaws.{read_roomy, read_short, read_refused}
use Rattle.ledger.specs.Limits.{block_limit}
use Rattle.ledger.specs.declared.Row.{Row}
use Rattle.ledger.specs.declared.Refusal.{Refusal}
use Rattle.ledger.specs.declared.Reason.TheVariants.{NumberOutOfRange, BadWord, SpanDisagrees, BlockRules, CountsDisagree, NoRoom}
use Rattle.ledger.specs.Refusals.{require, fault_at, refusal_at}
use Rattle.text.specs.Checks.{refused}
use Rattle.blocks.specs.Blocks.{row_numbers_fit}
use Rattle.blocks.specs.Rows.{targets_of, queries_of, sizes_of}
use Rattle.rows.specs.Staging.{all_reach, Loaded, Columns, stored_rows}
use Rattle.rows.proofs.StagingLaws.{loaded_targets, loaded_queries, loaded_sizes, cut_rows, rows_cut}
use Rattle.rows.proofs.ReaderLaws.{Reads, columns_is, columns_held, rows_accepted, rows_refused}
use Rattle.rows.proofs.WriterLaws.{written_cut, kept_cut}
use Rattle.psl.specs.declared.Psl.{Psl}
use Rattle.psl.specs.Records.{psl_targets, psl_queries, psl_sizes}
use Rattle.psl.specs.Read.{on_answer, psl_check, psl_read, PslRead}
use Rattle.ledger.specs.Strands.{is_told}
use Rattle.psl.specs.Tests.{fields_fit, spans_fit, psl_valid}
use Rattle.psl.specs.Write.{words_show, write_check, psl_words, psl_text, psl_write, PslWrote, record_check}
use Rattle.psl.specs.Rows.{rows_fit, counts_fit}
use Rattle.psl_laws.proofs.LineLaws.{accepted_targets, accepted_queries, accepted_sizes}
use Rattle.psl_laws.proofs.ValidLaws.{accepted_rules}
use Rattle.table_psl.specs.Rows.{table_after, RowsRead, rows_filled, ColumnsRead}
use Rattle.columns.specs.Names.{length_fits}
use Rattle.columns.specs.Lines.{then_write}
use Rattle.std.specs.Prelude.{Ok, Err, Result, ⊤}

-- the reader as one of any format
pub by_answer : (a : Result Psl Refusal) (P : Type 0) → ((r : Psl) → a ≡ Ok r → P) → ((x : Refusal) → a ≡ Err x → P) → P
by_answer (Ok r) P f g = f r refl
by_answer (Err x) P f g = g x refl

pub psl_reads : (s : List ℕ) → Reads Ok Err (λ (r : Psl). r.blockCount) rows_filled (psl_check s) (psl_read s) (refusal_at (fault_at NoRoom (length s))) (λ r. psl_targets s) (λ r. psl_queries s) (λ r. psl_sizes s)
psl_reads s = record {
  cases = by_answer;
  apart = λ r x e. absurd (let z : ◌≡◌ {A = ℕ} 0 1 = cc in omega arith);
  filled_by = λ r. refl;
  filled_none = λ x. refl;
  roomy = λ r room k h. read_roomy s room r k h;
  short = λ r room k h. read_short s room r k h;
  refused = λ x room k. read_refused s room x k;
  few = λ r ok. (accepted_rules s r ok).rows.few_blocks;
  targets = λ r ok. accepted_targets s r ok;
  queries = λ r ok. accepted_queries s r ok;
  sizes = λ r ok. accepted_sizes s r ok;
}

-- reading into three columns
pub columns_read : (s ts qs zs t q z : List ℕ) (rows n : ℕ) (x : Result Psl Refusal) → Columns ts qs zs → n ≡ min rows block_limit
    → PslRead s (take n ts) t (take n qs) q (take n zs) z x → ColumnsRead s rows (put_mid 0 n ts t) (put_mid 0 n qs q) (put_mid 0 n zs z) x
columns_read s ts qs zs t q z rows n x room e h = record {
  is = columns_is (psl_reads s) ts qs zs t q z rows n x room e h.is;
  held = λ r k. columns_held (psl_reads s) ts qs zs t q z rows n x room e h.is r k
      (h.targets ∙ ap (λ (y : Result Psl Refusal). rows_after on_answer y (λ (r : Psl). psl_targets s) (take n ts)) k)
      (h.queries ∙ ap (λ (y : Result Psl Refusal). rows_after on_answer y (λ (r : Psl). psl_queries s) (take n qs)) k)
      (h.sizes ∙ ap (λ (y : Result Psl Refusal). rows_after on_answer y (λ (r : Psl). psl_sizes s) (take n zs)) k);
}

-- the table after the rows of an answer were stored
pub rows_read : (s ts qs zs : List ℕ) (before after : List Row) (n : ℕ) (x : Result Psl Refusal) → ColumnsRead s (length before) ts qs zs x → n ≡ rows_filled x
    → after ≡ stored_rows n ts qs zs before → RowsRead s before after x
rows_read s ts qs zs before after n x h e k = record {
  is = h.is;
  rows = by_answer x _
      (λ r l. rows_accepted (psl_reads s) ts qs zs before after n x h.held e k r l ∙ ap (λ (y : Result Psl Refusal). table_after y s before) (sym l))
      (λ w l. rows_refused (psl_reads s) ts qs zs before after n x h.held e k w l ∙ ap (λ (y : Result Psl Refusal). table_after y s before) (sym l));
}

pub filled_accepted : (a : Result Psl Refusal) (r : Psl) → a ≡ Ok r → r.blockCount ≡ rows_filled a
filled_accepted a r e = rw e

-- THE RECORD CHECKER, as it looks at the rows in use
abbrev pub check_seen : Psl → Bool → List ℕ → List ℕ → List ℕ → Result ⊤ Refusal
check_seen r t ts qs zs =
    require
    (t && ((length_fits r.query.name.length && (length_fits r.target.name.length && is_told r.strand))
    && (fields_fit r && (row_numbers_fit ts qs zs && (spans_fit r && (rows_fit r ts qs zs && counts_fit r.counts ts qs zs))))))
    (refused BlockRules) (Ok tt)

check_cut : (r : Psl) (rows : List Row) → record_check r (targets_of (cut_rows rows)) (queries_of (cut_rows rows)) (sizes_of (cut_rows rows)) ≡ record_check r (targets_of rows) (queries_of rows) (sizes_of rows)
unfolding record_check psl_valid
check_cut r rows = rows_cut (check_seen r) (λ a b c d e f. refl) r.blockCount rows

pub columns_checked : (r : Psl) (ts qs zs : List ℕ) (rows n : ℕ) (x : Result ⊤ Refusal) → n ≡ min rows block_limit → x ≡ record_check r (take n ts) (take n qs) (take n zs)
    → x ≡ record_check r (take (min rows block_limit) ts) (take (min rows block_limit) qs) (take (min rows block_limit) zs)
columns_checked r ts qs zs rows n x e h = h ∙ ap (λ (m : ℕ). record_check r (take m ts) (take m qs) (take m zs)) e

-- THE WRITER: its text is made of the rows in use
text_front : (r : Psl) (qName tName ts qs zs : List ℕ) → 1 ≤ r.blockCount → psl_text r qName tName ts qs zs ≡ psl_text r qName tName (take r.blockCount ts) (take r.blockCount qs) (take r.blockCount zs)
unfolding psl_text psl_words
text_front r qName tName ts qs zs h =
    rw (take-take r.blockCount r.blockCount ts (omega arith), take-take r.blockCount r.blockCount qs (omega arith), take-take r.blockCount r.blockCount zs (omega arith))

module _ (r : Psl) (qName tName : List ℕ) where
  -- the checks after the count of rows
  abbrev rest : List ℕ → List ℕ → List ℕ → Result ⊤ Refusal
  rest ts qs zs =
      require (words_show r qName tName) (refused BadWord)
      (require (fields_fit r && row_numbers_fit ts qs zs) (refused NumberOutOfRange)
      (require (spans_fit r) (refused SpanDisagrees) (require (rows_fit r ts qs zs) (refused BlockRules) (require (counts_fit r.counts ts qs zs) (refused CountsDisagree) (Ok tt)))))

  wrote_cut : (rows : List Row) (before after : List ℕ) (x : Result ℕ Refusal) → PslWrote r qName tName (targets_of (cut_rows rows)) (queries_of (cut_rows rows)) (sizes_of (cut_rows rows)) before after x
      → PslWrote r qName tName (targets_of rows) (queries_of rows) (sizes_of rows) before after x
  unfolding psl_write write_check
  wrote_cut rows before after x h = record {
    is = h.is ∙ written_cut r.blockCount rest (psl_text r qName tName) then_write (λ y w. refl) (text_front r qName tName) rows (length before);
    left = kept_cut r.blockCount rest (psl_text r qName tName) then_write (λ y w. refl) (text_front r qName tName) rows before after x h.is h.left;
  }

pub columns_wrote : (r : Psl) (qName tName ts qs zs before after : List ℕ) (rows n : ℕ) (x : Result ℕ Refusal) → n ≡ min rows block_limit → PslWrote r qName tName (take n ts) (take n qs) (take n zs) before after x
    → PslWrote r qName tName (take (min rows block_limit) ts) (take (min rows block_limit) qs) (take (min rows block_limit) zs) before after x
columns_wrote r qName tName ts qs zs before after rows n x e h = subst (λ (m : ℕ). PslWrote r qName tName (take m ts) (take m qs) (take m zs) before after x) e h

-- the record checker and the writer on the rows that were loaded
module _ (rows : List Row) (ts ts' qs qs' zs zs' : List ℕ) (room : Columns ts qs zs) (h : Loaded (all_reach (length rows) ts qs zs) rows ts ts' qs qs' zs zs') where
  abbrev part : ℕ
  part = min (length rows) block_limit

  pub rows_checked : (r : Psl) (x : Result ⊤ Refusal) → x ≡ record_check r (take part ts') (take part qs') (take part zs') → x ≡ record_check r (targets_of rows) (queries_of rows) (sizes_of rows)
  rows_checked r x e = (rw (loaded_targets rows ts ts' qs qs' zs zs' room h, loaded_queries rows ts ts' qs qs' zs zs' room h, loaded_sizes rows ts ts' qs qs' zs zs' room h) at e) ∙ check_cut r rows

  pub rows_wrote : (r : Psl) (qName tName before after : List ℕ) (x : Result ℕ Refusal) → PslWrote r qName tName (take part ts') (take part qs') (take part zs') before after x
      → PslWrote r qName tName (targets_of rows) (queries_of rows) (sizes_of rows) before after x
  rows_wrote r qName tName before after x e =
      wrote_cut r qName tName rows before after x
      (rw (loaded_targets rows ts ts' qs qs' zs zs' room h, loaded_queries rows ts ts' qs qs' zs zs' room h, loaded_sizes rows ts ts' qs qs' zs zs' room h) at e)
