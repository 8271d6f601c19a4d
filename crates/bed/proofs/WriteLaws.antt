-- Writing a BED record: what each stage shows, on plain values. Assumes nothing.
use mathlib.Core.Path.{◌≡◌, refl, sym, ◌∙◌}
use mathlib.Core.Bool.{Bool, true, false, cond}
use mathlib.Core.List.{List}
use Prim.Native.Nat.{ℕ, ◌-◌, ◌*◌, ◌≤◌, min}
use native.Mathlib.Omega.{arith}
use lib.ListN.{length, take, drop, length-take}
use lib.Seq.{sets, length-sets}
use lib.Dec.{leb, ltb, eqb}
use borrow.Author.Tests.{leb-true, eqb-true}
use borrow.Rule.Slice.PartMut.{put_mid}
use Rattle.std.specs.Prelude.{Ok, Err, Result, ⊤}
use Rattle.ledger.specs.Limits.{name_limit, block_limit}
use Rattle.ledger.specs.declared.Refusal.{Refusal}
use Rattle.text.proofs.StageLaws.{require_holds}
use Rattle.text.proofs.TextLaws.{both}
use Rattle.writing.specs.Answers.{Wrote}
use Rattle.kinds.proofs.SpellLaws.{part_stored}
use Rattle.columns.specs.Columns.{table_of}
use Rattle.columns.specs.Lines.{line_text, fed_line, words_from}
use Rattle.columns.specs.Names.{NamesPut, names_in, length_fits}
use Rattle.columns.proofs.JoinLaws.{line_joins, words_take}
use Rattle.columns.proofs.NameLaws.{names_put}
use Rattle.columns.proofs.PlaceLaws.{sets_keep, sets_there}
use Rattle.columns.proofs.TableLaws.{front_length, table_is}
use Rattle.columns.proofs.WordLaws.{letter_byte}
use Rattle.blocks.specs.Blocks.{rows_of, subtracted, row_numbers_fit}
use Rattle.blocks.proofs.RuleLaws.{subtracted_length}
use Rattle.bed.specs.declared.Bed.{Bed}
use Rattle.bed.specs.Columns as column
use Rattle.bed.specs.Table.{bed_columns}
use Rattle.bed.specs.Records.{is_word_count}
use Rattle.bed.specs.Tests.{if_there, names_fit, fields_fit, strand_fits}
use Rattle.bed.specs.Write.{names_show, write_check, bed_words, bed_text, bed_write, BedWrote}
use Rattle.bed.specs.Steps.{bed_values, RowsThere, ListsPut, Writable}
use Rattle.bed.proofs.ColumnLaws.{columns_few, count_most}

-- the two lists of the blocks
pub lists_put : (r : Bed) (ts zs l l₁ y : List ℕ) → RowsThere r ts zs l → l₁ ≡ sets l 0 (take r.blockCount zs)
    → y ≡ sets (take (length l₁ - block_limit) (drop block_limit l₁)) 0 (subtracted r.chromStart (take r.blockCount ts)) → ListsPut r ts zs (put_mid block_limit (length l₁ - block_limit) l₁ y)
lists_put r ts zs l l₁ y h e₁ ey =
    let n = r.blockCount in
    let xs = subtracted r.chromStart (take n ts) in
    let long : length l₁ ≡ 2 * block_limit = rw (e₁, length-sets) h.long in
    let m : block_limit ≡ min block_limit (length l₁) = omega arith in
    let e : put_mid block_limit (length l₁ - block_limit) l₁ y ≡ sets l₁ block_limit xs = part_stored l₁ y xs block_limit block_limit m ey in
    let a : length (take n zs) ≡ n = rw length-take (omega (arith, h.sizes)) in
    let c : length xs ≡ n = subtracted_length r.chromStart (take n ts) ∙ rw length-take (omega (arith, h.targets)) in
    let u : take (length (take n zs)) (drop 0 (sets l 0 (take n zs))) ≡ take n zs = sets_there l 0 (take n zs) (omega (arith, a, h.few, h.long)) in
    let w : take (length xs) (drop block_limit (sets l₁ block_limit xs)) ≡ xs = sets_there l₁ block_limit xs (omega (arith, c, h.few)) in
    record {
      sizes = rw e (sets_keep l₁ block_limit xs 0 n (omega (arith, h.few)) ∙ rw e₁ (rw a at u));
      starts = rw e (rw c at w);
    }

-- the line that the line writer makes of the values is the standard text
module _ (r : Bed) (chrom name ts zs t l : List ℕ) (names : NamesPut chrom name t) (lists : ListsPut r ts zs l) where
  words_are : words_from 0 0 bed_columns t (bed_values r (length chrom) (length name)) l ≡ bed_words r chrom name ts zs
  unfolding words_from bed_columns bed_values bed_words
  words_are = rw (names.first_at, names.second_at, letter_byte r.strand, lists.sizes, lists.starts)

  pub text_is : r.words ≤ column.all → fed_line (table_of (take r.words bed_columns)) 9 t (bed_values r (length chrom) (length name)) l ≡ bed_text r chrom name ts zs
  unfolding fed_line line_text bed_text bed_columns
  text_is h = rw (
    table_is bed_columns columns_few r.words h,
    line_joins 9 t (bed_values r (length chrom) (length name)) l (take r.words bed_columns),
    words_take r.words 0 0 bed_columns t (bed_values r (length chrom) (length name)) l,
    words_are,
  )

  pub text_wrote : (vs b b' : List ℕ) (x : Result ℕ Refusal) → vs ≡ bed_values r (length chrom) (length name) → r.words ≤ column.all → Wrote (fed_line (table_of (take r.words bed_columns)) 9 t vs l) b b' x → Wrote (bed_text r chrom name ts zs) b b' x
  text_wrote vs b b' x ev h w = rw (ev, text_is h) at w

-- what the stages ask of a record that passed the checks
module _ (r : Bed) (chrom name ts zs : List ℕ) (w : Writable r chrom name ts zs) where
  pub names_there : (t names : List ℕ) → names ≡ names_in chrom name t → length t ≡ 2 * name_limit → NamesPut chrom name names
  names_there t names e l = names_put chrom name t names e l w.chrom_short w.name_short

  pub columns_there : r.words ≡ length (take r.words bed_columns)
  unfolding bed_columns
  columns_there = front_length bed_columns columns_few r.words w.words

  pub rows_there : (l : List ℕ) → length l ≡ 2 * block_limit → RowsThere r ts zs l
  rows_there l e = record { long = e; few = w.few; targets = w.targets; sizes = w.sizes }

name_short : (n m : ℕ) → if_there n column.name (length_fits m) (eqb m 0) ≡ true → m ≤ name_limit
name_short n m h = go (ltb column.name n) h
  where
    go : (t : Bool) → cond t (length_fits m) (eqb m 0) ≡ true → m ≤ name_limit
    go true k = leb-true m name_limit (both (leb 1 m) (leb m name_limit) k).1
    go false k = omega (arith, eqb-true m 0 k)

-- a record that passes the checks can be written
pub check_writable : (r : Bed) (chrom name ts qs zs : List ℕ) → write_check r chrom name ts qs zs ≡ Ok tt → Writable r chrom name ts zs
unfolding write_check names_show names_fit fields_fit
check_writable r chrom name ts qs zs e =
    let a = require_holds _ _ _ e in
    let b = require_holds _ _ _ a.1 in
    let c = require_holds _ _ _ b.1 in
    let count = both (leb 1 r.blockCount) _ a.0 in
    let few = both (leb r.blockCount block_limit) (leb r.blockCount (rows_of ts qs zs)) count.1 in
    let rows = leb-true r.blockCount (rows_of ts qs zs) few.1 in
    let names = (both (names_fit r.words (length chrom) (length name)) _ (both (names_show r chrom name) (strand_fits r) b.0).0).0 in
    let both-names = both (length_fits (length chrom)) (if_there r.words column.name (length_fits (length name)) (eqb (length name) 0)) names in
    let number = (both (is_word_count r.words) _ (both (fields_fit r) (row_numbers_fit (take r.blockCount ts) (take r.blockCount qs) (take r.blockCount zs)) c.0).0).0 in
    record {
      words = count_most r.words number;
      chrom_short = leb-true (length chrom) name_limit (both (leb 1 (length chrom)) (leb (length chrom) name_limit) both-names.0).1;
      name_short = name_short r.words (length name) both-names.1;
      few = leb-true r.blockCount block_limit few.0;
      targets = omega arith;
      sizes = omega arith;
    }

-- the writer: the checks, then the text
module _ (r : Bed) (chrom name ts qs zs b : List ℕ) (c : Result ⊤ Refusal) (ec : c ≡ write_check r chrom name ts qs zs) where
  pub write_refused : (x : Refusal) → c ≡ Err x → BedWrote r chrom name ts qs zs b b (Err x)
  unfolding bed_write
  write_refused x q = record { is = rw (← ec, q); left = refl }

  pub write_ready : c ≡ Ok tt → Writable r chrom name ts zs
  write_ready q = check_writable r chrom name ts qs zs (sym ec ∙ q)

  pub write_wrote : (b' : List ℕ) (x : Result ℕ Refusal) → c ≡ Ok tt → Wrote (bed_text r chrom name ts zs) b b' x → BedWrote r chrom name ts qs zs b b' x
  unfolding bed_write
  write_wrote b' x q h = record { is = rw (← ec, q) h.is; left = h.left }
