-- The quick ways of BED's entries: a text in standard form is its own standard text, and few blocks need little room. Assumes nothing.
use mathlib.Core.Path.{◌≡◌, sym, ap, ◌∙◌}
use mathlib.Core.Bool.{Bool, true}
use mathlib.Core.List.{List}
use Prim.Native.Nat.{ℕ}
use native.Mathlib.Omega.{arith}
use lib.ListN.{length, take}
use lib.Seq.{sets}
use Rattle.std.specs.Prelude.{Ok, Result}
use Rattle.ledger.specs.declared.Refusal.{Refusal}
use Rattle.blocks.specs.Blocks.{rows_of}
use Rattle.blocks.specs.Rows.{table_of}
use Rattle.blocks.proofs.TableLaws.{table_take}
use Rattle.rows.proofs.ReaderLaws.{read_of}
use Rattle.bed.specs.declared.Bed.{Bed}
use Rattle.bed.specs.Records.{bed_targets, bed_queries, bed_sizes, bed_rows}
use Rattle.blocks.specs.Readers.{rows_after}
use Rattle.bed.specs.Read.{on_answer, bed_check, BedRead}
use Rattle.bed.specs.Write.{bed_write}
use Rattle.bed.specs.Standard.{Standard}
use Rattle.bed_laws.proofs.WritableLaws.{accepted_writable, chrom_handed, name_back}
use Rattle.table_bed.proofs.RowLaws.{bed_reads}
use Rattle.answers.specs.Answers.{Answered, recorded, no_room_at}
use Rattle.entries.specs.Records.{bed_numbers}
use Rattle.entries.specs.Entries.{parsed_bed, copied, bed_written, formatted_bed}
use Rattle.entries.proofs.StageLaws.{front}

-- FORMAT: the text itself
standard_formatted : (s : List ℕ) → Standard s → (room : ℕ) → formatted_bed s room ≡ copied s room
unfolding formatted_bed bed_written bed_write copied
standard_formatted s st room =
    let r = st.bed in
    let ok = st.accepted in
    rw (ok, chrom_handed s r ok, name_back s r ok, accepted_writable s r ok, st.same)

pub format_copied : (s b b' : List ℕ) (t : Bool) (code : ℕ) → (t ≡ true → Standard s) → t ≡ true → Answered (copied s (length b)) b b' code → Answered (formatted_bed s (length b)) b b' code
format_copied s b b' t code f q g = rw (standard_formatted s (f q) (length b)) g

-- PARSE: what is accepted with room for few blocks
module _ (s b₁ ts b₂ qs b₃ zs b : List ℕ) (x : Result Bed Refusal) (f : BedRead s b₁ ts b₂ qs b₃ zs x) (a : Bed) (e : x ≡ Ok a) where
  accepted : bed_check s ≡ Ok a
  accepted = (read_of (bed_reads s) (rows_of b₁ b₂ b₃) a (sym f.is ∙ e)).0

  first_rows : take a.blockCount (table_of ts qs zs) ≡ bed_rows s a
  first_rows =
      let n = a.blockCount in
      let room = (read_of (bed_reads s) (rows_of b₁ b₂ b₃) a (sym f.is ∙ e)).1 in
      let et : ts ≡ sets b₁ 0 (bed_targets s a) = f.targets ∙ ap (λ (y : Result Bed Refusal). rows_after on_answer y (bed_targets s) b₁) e in
      let eq : qs ≡ sets b₂ 0 (bed_queries s a) = f.queries ∙ ap (λ (y : Result Bed Refusal). rows_after on_answer y (bed_queries s) b₂) e in
      let ez : zs ≡ sets b₃ 0 (bed_sizes s a) = f.sizes ∙ ap (λ (y : Result Bed Refusal). rows_after on_answer y (bed_sizes s) b₃) e in
      let t : take n ts ≡ bed_targets s a = rw et (front n (bed_targets s a) b₁ ((bed_reads s).targets a accepted) (omega arith)) in
      let q : take n qs ≡ bed_queries s a = rw eq (front n (bed_queries s a) b₂ ((bed_reads s).queries a accepted) (omega arith)) in
      let z : take n zs ≡ bed_sizes s a = rw ez (front n (bed_sizes s a) b₃ ((bed_reads s).sizes a accepted) (omega arith)) in
      table_take n ts qs zs ∙ rw (t, q, z)

  pub parse_few_accepted : (fields : List ℕ) → fields ≡ bed_numbers a → (b' : List ℕ) (r : ℕ) → Answered (recorded (no_room_at (length s)) (length b) fields (take a.blockCount (table_of ts qs zs))) b b' r
      → Answered (parsed_bed s (length b)) b b' r
  unfolding parsed_bed
  parse_few_accepted fields k b' r g = rw (accepted, ← k, ← first_rows) g
