-- Writing a PSL record: what each stage shows, on plain values. Assumes nothing.
use mathlib.Core.Path.{◌≡◌, refl, sym, ◌∙◌}
use mathlib.Core.Bool.{◌&&◌}
use mathlib.Core.List.{List}
use Prim.Native.Nat.{ℕ, suc, ◌+◌, ◌-◌, ◌*◌, ◌≤◌, ◌<◌}
use native.Mathlib.Numerals.{add-one}
use native.Mathlib.Omega.{arith}
use lib.ListN.{length, get_or, set, take, drop, length-take, drop_of_length-le}
use lib.Seq.{sets, length-sets, drop-cons}
use lib.Dec.{leb}
use borrow.Author.Tests.{leb-true}
use borrow.Rule.Slice.PartMut.{put_mid}
use Rattle.ledger.specs.Limits.{name_limit, block_limit}
use Rattle.ledger.specs.declared.Refusal.{Refusal}
use Rattle.ledger.specs.Strands.{is_told}
use Rattle.text.proofs.TextLaws.{both}
use Rattle.text.proofs.StageLaws.{require_holds}
use Rattle.writing.specs.Answers.{Wrote}
use Rattle.kinds.proofs.SpellLaws.{part_stored}
use Rattle.columns.specs.Columns.{table_of}
use Rattle.columns.specs.Lines.{line_text, fed_line}
use Rattle.columns.specs.Names.{NamesPut, names_in, length_fits, all_graphic}
use Rattle.columns.specs.Lines.{words_from}
use Rattle.columns.proofs.JoinLaws.{line_joins}
use Rattle.columns.proofs.NameLaws.{names_put}
use Rattle.columns.proofs.PlaceLaws.{sets_keep, sets_there}
use Rattle.blocks.specs.Blocks.{rows_of}
use Rattle.psl.specs.declared.Psl.{Psl}
use Rattle.psl.specs.Table.{psl_columns}
use Rattle.psl.proofs.ColumnLaws.{table_is}
use Rattle.psl.specs.Write.{words_show, write_check, psl_words, psl_text, psl_write, PslWrote}
use Rattle.psl.specs.Steps.{values_put, psl_values, RowsThere, ListsPut, Writable}
use Rattle.columns.proofs.WordLaws.{letter_byte}
use Rattle.std.specs.Prelude.{Ok, Err, Result, ⊤}

-- three lists stored one after the other, room for a record's blocks each
pub lists_put : (n : ℕ) (ts qs zs l l₁ y l₂ z : List ℕ) → RowsThere n ts qs zs l → l₁ ≡ sets l 0 (take n zs)
    → y ≡ sets (take (length l₁ - block_limit) (drop block_limit l₁)) 0 (take n qs) → l₂ ≡ put_mid block_limit (length l₁ - block_limit) l₁ y
    → z ≡ sets (take (length l₂ - 2 * block_limit) (drop (2 * block_limit) l₂)) 0 (take n ts) → ListsPut n ts qs zs (put_mid (2 * block_limit) (length l₂ - 2 * block_limit) l₂ z)
lists_put n ts qs zs l l₁ y l₂ z h e₁ ey e₂ ez =
    let a : length (take n zs) ≡ n = rw length-take (omega (arith, h.sizes)) in
    let b : length (take n qs) ≡ n = rw length-take (omega (arith, h.queries)) in
    let c : length (take n ts) ≡ n = rw length-take (omega (arith, h.targets)) in
    let long₁ : length l₁ ≡ 3 * block_limit = rw (e₁, length-sets) h.long in
    let f₂ : l₂ ≡ sets l₁ block_limit (take n qs) = e₂ ∙ part_stored l₁ y (take n qs) block_limit block_limit (omega arith) ey in
    let long₂ : length l₂ ≡ 3 * block_limit = rw (f₂, length-sets) long₁ in
    let f₃ : put_mid (2 * block_limit) (length l₂ - 2 * block_limit) l₂ z ≡ sets l₂ (2 * block_limit) (take n ts) = part_stored l₂ z (take n ts) (2 * block_limit) (2 * block_limit) (omega arith) ez in
    let u : take (length (take n zs)) (drop 0 (sets l 0 (take n zs))) ≡ take n zs = sets_there l 0 (take n zs) (omega (arith, a, h.few, h.long)) in
    let v : take (length (take n qs)) (drop block_limit (sets l₁ block_limit (take n qs))) ≡ take n qs = sets_there l₁ block_limit (take n qs) (omega (arith, b, h.few)) in
    let w : take (length (take n ts)) (drop (2 * block_limit) (sets l₂ (2 * block_limit) (take n ts))) ≡ take n ts = sets_there l₂ (2 * block_limit) (take n ts) (omega (arith, c, h.few)) in
    record {
      sizes = rw f₃ (sets_keep l₂ (2 * block_limit) (take n ts) 0 n (omega (arith, h.few)) ∙ rw f₂ (sets_keep l₁ block_limit (take n qs) 0 n (omega (arith, h.few)) ∙ rw e₁ (rw a at u)));
      queries = rw f₃ (sets_keep l₂ (2 * block_limit) (take n ts) block_limit n (omega (arith, h.few)) ∙ rw f₂ (rw b at v));
      targets = rw f₃ (rw c at w);
    }

-- a value stored leaves the rest to store
module _ (values out out₀ : List ℕ) (k : ℕ) (inv : values_put out (2 * k) (drop k values) ≡ values_put out₀ 0 values) where
  pub value_more : (out' : List ℕ) → k < length values → out' ≡ set out (2 * k) (get_or values k 0) → values_put out' (2 * (k + 1)) (drop (k + 1) values) ≡ values_put out₀ 0 values
  unfolding values_put
  value_more out' h e =
      let p : 2 * suc k ≡ 2 * k + 2 = omega arith in
      rw (e, add-one k, p) (rw (drop-cons values k 0 h) at inv)

  pub values_done : length values ≤ k → out ≡ values_put out₀ 0 values
  unfolding values_put
  values_done h = rw (drop_of_length-le values h) at inv

-- the line that the line writer makes of the values is the standard text
module _ (r : Psl) (query target ts qs zs t l : List ℕ) (names : NamesPut query target t) (lists : ListsPut r.blockCount ts qs zs l) where
  words_are : words_from 0 0 psl_columns t (psl_values r (length query) (length target)) l ≡ psl_words r query target ts qs zs
  unfolding words_from psl_columns values_put psl_values psl_words
  words_are = rw (names.first_at, names.second_at, letter_byte r.strand, lists.sizes, lists.queries, lists.targets)

  text_is : fed_line (table_of psl_columns) 9 t (psl_values r (length query) (length target)) l ≡ psl_text r query target ts qs zs
  unfolding fed_line line_text psl_text
  text_is = rw (table_is, line_joins 9 t (psl_values r (length query) (length target)) l psl_columns, words_are)

  pub text_wrote : (vs b b' : List ℕ) (x : Result ℕ Refusal) → vs ≡ psl_values r (length query) (length target) → Wrote (fed_line (table_of psl_columns) 9 t vs l) b b' x → Wrote (psl_text r query target ts qs zs) b b' x
  text_wrote vs b b' x ev w = rw (ev, text_is) at w

-- what the stages ask of a record that passed the checks
module _ (r : Psl) (query target ts qs zs : List ℕ) (w : Writable r query target ts qs zs) where
  pub names_there : (t names : List ℕ) → names ≡ names_in query target t → length t ≡ 2 * name_limit → NamesPut query target names
  names_there t names e l = names_put query target t names e l w.query_short w.target_short

  pub rows_there : (l : List ℕ) → length l ≡ 3 * block_limit → RowsThere r.blockCount ts qs zs l
  rows_there l e = record { long = e; few = w.few; targets = w.targets; queries = w.queries; sizes = w.sizes }

-- a record that passes the checks can be written
check_writable : (r : Psl) (query target ts qs zs : List ℕ) → write_check r query target ts qs zs ≡ Ok tt → Writable r query target ts qs zs
unfolding write_check words_show
check_writable r query target ts qs zs e =
    let a = require_holds _ _ _ e in
    let b = require_holds _ _ _ a.1 in
    let count = both (leb 1 r.blockCount) _ a.0 in
    let few = both (leb r.blockCount block_limit) (leb r.blockCount (rows_of ts qs zs)) count.1 in
    let rows = leb-true r.blockCount (rows_of ts qs zs) few.1 in
    let names = (both (length_fits (length query) && (length_fits (length target) && is_told r.strand)) (all_graphic query && all_graphic target) b.0).0 in
    let q = both (length_fits (length query)) (length_fits (length target) && is_told r.strand) names in
    let t = both (length_fits (length target)) (is_told r.strand) q.1 in
    record {
      query_short = leb-true (length query) name_limit (both (leb 1 (length query)) (leb (length query) name_limit) q.0).1;
      target_short = leb-true (length target) name_limit (both (leb 1 (length target)) (leb (length target) name_limit) t.0).1;
      few = leb-true r.blockCount block_limit few.0;
      targets = omega arith;
      queries = omega arith;
      sizes = omega arith;
    }

-- the writer: the checks, then the text
module _ (r : Psl) (query target ts qs zs b : List ℕ) (c : Result ⊤ Refusal) (ec : c ≡ write_check r query target ts qs zs) where
  pub write_refused : (x : Refusal) → c ≡ Err x → PslWrote r query target ts qs zs b b (Err x)
  unfolding psl_write
  write_refused x q = record { is = rw (← ec, q); left = refl }

  pub write_ready : c ≡ Ok tt → Writable r query target ts qs zs
  write_ready q = check_writable r query target ts qs zs (sym ec ∙ q)

  pub write_wrote : (b' : List ℕ) (x : Result ℕ Refusal) → c ≡ Ok tt → Wrote (psl_text r query target ts qs zs) b b' x → PslWrote r query target ts qs zs b b' x
  unfolding psl_write
  write_wrote b' x q h = record { is = rw (← ec, q) h.is; left = h.left }
