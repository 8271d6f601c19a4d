-- BED lines over a table of rows: the staged rows give the same answers as the table. Assumes nothing.
use mathlib.Core.Path.{◌≡◌, refl, sym, ap, subst, ◌∙◌}
use mathlib.Core.Bool.{Bool, ◌&&◌}
use mathlib.Core.List.{List}
use Prim.Native.Nat.{ℕ, ◌≤◌, min}
use native.Mathlib.Omega.{arith}
use lib.ListN.{length, take}
use lib.Seq.{take-take}
use borrow.Rule.Slice.PartMut.{put_mid}
use Rattle.std.specs.Prelude.{Ok, Err, Result, ⊤}
use Rattle.ledger.specs.Limits.{block_limit}
use Rattle.ledger.specs.declared.Row.{Row}
use Rattle.ledger.specs.declared.Refusal.{Refusal}
use Rattle.ledger.specs.declared.Reason.TheVariants.{NumberOutOfRange, BadWord, SpanDisagrees, BlockRules, NoRoom}
use Rattle.ledger.specs.Refusals.{require, fault_at, refusal_at}
use Rattle.text.specs.Checks.{refused}
use Rattle.columns.specs.Lines.{then_write}
use Rattle.blocks.specs.Readers.{rows_after}
use Rattle.blocks.specs.Blocks.{row_numbers_fit}
use Rattle.blocks.specs.Rows.{targets_of, queries_of, sizes_of}
use Rattle.rows.specs.Staging.{all_reach, Loaded, Columns, stored_rows}
use Rattle.rows.proofs.StagingLaws.{loaded_targets, loaded_queries, loaded_sizes, cut_rows, rows_cut}
use Rattle.rows.proofs.ReaderLaws.{Reads, columns_is, columns_held, rows_accepted, rows_refused}
use Rattle.rows.proofs.WriterLaws.{written_cut, kept_cut}
use Rattle.bed.proofs.ReadLaws.{read_roomy, read_short, read_refused}
use Rattle.bed.specs.declared.Bed.{Bed}
use Rattle.bed.specs.Records.{bed_targets, bed_queries, bed_sizes}
use Rattle.bed.specs.Read.{on_answer, bed_check, bed_read, BedRead}
use Rattle.bed.specs.Tests.{names_fit, strand_fits, fields_fit, spans_fit, rows_fit, bed_valid}
use Rattle.bed.specs.Write.{names_show, write_check, bed_words, bed_text, bed_write, BedWrote, record_check}
use Rattle.bed.proofs.RowLaws.{accepted_rows}
use Rattle.table_bed.specs.Rows.{table_after, RowsRead, rows_filled, ColumnsRead}

-- the reader as one of any format
pub by_answer : (a : Result Bed Refusal) (P : Type 0) → ((r : Bed) → a ≡ Ok r → P) → ((x : Refusal) → a ≡ Err x → P) → P
by_answer (Ok r) P f g = f r refl
by_answer (Err x) P f g = g x refl

pub bed_reads : (s : List ℕ) → Reads Ok Err (λ (r : Bed). r.blockCount) rows_filled (bed_check s) (bed_read s) (refusal_at (fault_at NoRoom (length s))) (bed_targets s) (bed_queries s) (bed_sizes s)
bed_reads s = record {
  cases = by_answer;
  apart = λ r x e. absurd (let z : ◌≡◌ {A = ℕ} 0 1 = cc in omega arith);
  filled_by = λ r. refl;
  filled_none = λ x. refl;
  roomy = λ r room k h. read_roomy s r room k h;
  short = λ r room k h. read_short s r room k h;
  refused = λ x room k. read_refused s x room k;
  few = λ r ok. (accepted_rows s r ok).few_blocks;
  targets = λ r ok. (accepted_rows s r ok).targets;
  queries = λ r ok. (accepted_rows s r ok).queries;
  sizes = λ r ok. (accepted_rows s r ok).sizes;
}

-- reading into three columns
pub columns_read : (s ts qs zs t q z : List ℕ) (rows n : ℕ) (x : Result Bed Refusal) → Columns ts qs zs → n ≡ min rows block_limit
    → BedRead s (take n ts) t (take n qs) q (take n zs) z x → ColumnsRead s rows (put_mid 0 n ts t) (put_mid 0 n qs q) (put_mid 0 n zs z) x
columns_read s ts qs zs t q z rows n x room e h = record {
  is = columns_is (bed_reads s) ts qs zs t q z rows n x room e h.is;
  held = λ r k. columns_held (bed_reads s) ts qs zs t q z rows n x room e h.is r k
      (h.targets ∙ ap (λ (y : Result Bed Refusal). rows_after on_answer y (bed_targets s) (take n ts)) k)
      (h.queries ∙ ap (λ (y : Result Bed Refusal). rows_after on_answer y (bed_queries s) (take n qs)) k)
      (h.sizes ∙ ap (λ (y : Result Bed Refusal). rows_after on_answer y (bed_sizes s) (take n zs)) k);
}

-- the table after the rows of an answer were stored
pub rows_read : (s ts qs zs : List ℕ) (before after : List Row) (n : ℕ) (x : Result Bed Refusal) → ColumnsRead s (length before) ts qs zs x → n ≡ rows_filled x
    → after ≡ stored_rows n ts qs zs before → RowsRead s before after x
rows_read s ts qs zs before after n x h e k = record {
  is = h.is;
  rows = by_answer x _
      (λ r l. rows_accepted (bed_reads s) ts qs zs before after n x h.held e k r l ∙ ap (λ (y : Result Bed Refusal). table_after y s before) (sym l))
      (λ w l. rows_refused (bed_reads s) ts qs zs before after n x h.held e k w l ∙ ap (λ (y : Result Bed Refusal). table_after y s before) (sym l));
}

pub filled_accepted : (a : Result Bed Refusal) (r : Bed) → a ≡ Ok r → r.blockCount ≡ rows_filled a
filled_accepted a r e = rw e

-- THE RECORD CHECKER, as it looks at the rows in use
abbrev pub check_seen : Bed → Bool → List ℕ → List ℕ → List ℕ → Result ⊤ Refusal
check_seen r t ts qs zs =
    require (t && (names_fit r.words r.chrom.length r.name.length && (strand_fits r && (fields_fit r && (row_numbers_fit ts qs zs && (spans_fit r && rows_fit r ts qs zs)))))) (refused BlockRules) (Ok tt)

check_cut : (r : Bed) (rows : List Row) → record_check r (targets_of (cut_rows rows)) (queries_of (cut_rows rows)) (sizes_of (cut_rows rows)) ≡ record_check r (targets_of rows) (queries_of rows) (sizes_of rows)
unfolding record_check bed_valid
check_cut r rows = rows_cut (check_seen r) (λ a b c d e f. refl) r.blockCount rows

pub columns_checked : (r : Bed) (ts qs zs : List ℕ) (rows n : ℕ) (x : Result ⊤ Refusal) → n ≡ min rows block_limit → x ≡ record_check r (take n ts) (take n qs) (take n zs)
    → x ≡ record_check r (take (min rows block_limit) ts) (take (min rows block_limit) qs) (take (min rows block_limit) zs)
columns_checked r ts qs zs rows n x e h = h ∙ ap (λ (m : ℕ). record_check r (take m ts) (take m qs) (take m zs)) e

-- THE WRITER: its text is made of the rows in use
text_front : (r : Bed) (chrom name ts qs zs : List ℕ) → 1 ≤ r.blockCount → bed_text r chrom name ts zs ≡ bed_text r chrom name (take r.blockCount ts) (take r.blockCount zs)
unfolding bed_text bed_words
text_front r chrom name ts qs zs h = rw (take-take r.blockCount r.blockCount ts (omega arith), take-take r.blockCount r.blockCount zs (omega arith))

module _ (r : Bed) (chrom name : List ℕ) where
  -- the checks after the count of rows
  abbrev rest : List ℕ → List ℕ → List ℕ → Result ⊤ Refusal
  rest ts qs zs =
      require (names_show r chrom name && strand_fits r) (refused BadWord)
      (require (fields_fit r && row_numbers_fit ts qs zs) (refused NumberOutOfRange) (require (spans_fit r) (refused SpanDisagrees) (require (rows_fit r ts qs zs) (refused BlockRules) (Ok tt))))

  wrote_cut : (rows : List Row) (before after : List ℕ) (x : Result ℕ Refusal) → BedWrote r chrom name (targets_of (cut_rows rows)) (queries_of (cut_rows rows)) (sizes_of (cut_rows rows)) before after x
      → BedWrote r chrom name (targets_of rows) (queries_of rows) (sizes_of rows) before after x
  unfolding bed_write write_check
  wrote_cut rows before after x h = record {
    is = h.is ∙ written_cut r.blockCount rest (λ ts qs zs. bed_text r chrom name ts zs) then_write (λ y w. refl) (text_front r chrom name) rows (length before);
    left = kept_cut r.blockCount rest (λ ts qs zs. bed_text r chrom name ts zs) then_write (λ y w. refl) (text_front r chrom name) rows before after x h.is h.left;
  }

pub columns_wrote : (r : Bed) (chrom name ts qs zs before after : List ℕ) (rows n : ℕ) (x : Result ℕ Refusal) → n ≡ min rows block_limit → BedWrote r chrom name (take n ts) (take n qs) (take n zs) before after x
    → BedWrote r chrom name (take (min rows block_limit) ts) (take (min rows block_limit) qs) (take (min rows block_limit) zs) before after x
columns_wrote r chrom name ts qs zs before after rows n x e h = subst (λ (m : ℕ). BedWrote r chrom name (take m ts) (take m qs) (take m zs) before after x) e h

-- the record checker and the writer on the rows that were loaded
module _ (rows : List Row) (ts ts' qs qs' zs zs' : List ℕ) (room : Columns ts qs zs) (h : Loaded (all_reach (length rows) ts qs zs) rows ts ts' qs qs' zs zs') where
  abbrev part : ℕ
  part = min (length rows) block_limit

  pub rows_checked : (r : Bed) (x : Result ⊤ Refusal) → x ≡ record_check r (take part ts') (take part qs') (take part zs') → x ≡ record_check r (targets_of rows) (queries_of rows) (sizes_of rows)
  rows_checked r x e = (rw (loaded_targets rows ts ts' qs qs' zs zs' room h, loaded_queries rows ts ts' qs qs' zs zs' room h, loaded_sizes rows ts ts' qs qs' zs zs' room h) at e) ∙ check_cut r rows

  pub rows_wrote : (r : Bed) (chrom name before after : List ℕ) (x : Result ℕ Refusal) → BedWrote r chrom name (take part ts') (take part qs') (take part zs') before after x
      → BedWrote r chrom name (targets_of rows) (queries_of rows) (sizes_of rows) before after x
  rows_wrote r chrom name before after x e =
      wrote_cut r chrom name rows before after x
      (rw (loaded_targets rows ts ts' qs qs' zs zs' room h, loaded_queries rows ts ts' qs qs' zs zs' room h, loaded_sizes rows ts ts' qs qs' zs zs' room h) at e)
