-- What an accepted BED line passed, check by check; and what follows of its span, its blocks and their number. Assumes nothing.
use mathlib.Core.Path.{◌≡◌, refl, sym}
use mathlib.Core.Bool.{true}
use mathlib.Core.List.{List, [], ◌∷◌}
use Prim.Native.Nat.{ℕ, ◌-◌, ◌≤◌, ◌<◌}
use native.Mathlib.Omega.{arith}
use lib.ListN.{length, take}
use lib.Dec.{ltb}
use borrow.Author.Tests.{lt-ltb, le-ltb, ltb-true, ne_eqb}
use Rattle.std.specs.Prelude.{Ok, Err, Result, ⊤}
use Rattle.ledger.specs.declared.Fault.{Fault}
use Rattle.text.specs.Checks.{then_check, text_check, last_line_check}
use Rattle.text.specs.Words.{word_at, word_count, bytes_of}
use Rattle.text.proofs.CheckLaws.{words_hold}
use Rattle.text.proofs.StageLaws.{require_passes, went}
use Rattle.numbers.specs.Lists.{values_of}
use Rattle.columns.specs.Columns.{columns_from, values_from, value_of, then_next}
use Rattle.blocks.specs.Blocks.{blocks_fill}
use Rattle.bed.specs.declared.Bed.{Bed}
use Rattle.bed.specs.Columns as column
use Rattle.bed.specs.Table.{bed_columns}
use Rattle.bed.specs.Records.{is_word_count, bed_record, bed_sizes, bed_starts}
use Rattle.bed.specs.Read.{bed_words_check, thick_fits, span_check, block_check, after_spans, after_columns, after_words, after_text, bed_stages, bed_check}
use Rattle.bed.specs.Rules.{WordNumber}
use Rattle.bed.proofs.ReadLaws.{read_apart, checked_of, checked_is}
use Rattle.bed.proofs.ColumnLaws.{number_of_lem, by_number, all_columns, block_sizes_lem, block_starts_lem}

-- the values of a line: two numbers for each of its words
abbrev pub line_values : List ℕ → List ℕ
line_values s = values_from (take (word_count s 0) bed_columns) 0 s 0

-- what the row of checks found of a line that is accepted with the record r
pub record Accepts (s : List ℕ) (r : Bed) : Type 0 where
  pub text : text_check s ≡ Ok tt
  pub number : bed_words_check s (word_count s 0) ≡ Ok tt
  pub end : ℕ
  pub read : columns_from (take (word_count s 0) bed_columns) 0 s 0 ≡ Ok end
  pub line : last_line_check s 0 ≡ Ok tt
  pub is : r ≡ bed_record (word_count s 0) (length s) (line_values s)
  pub spans : span_check r (line_values s) ≡ Ok tt
  pub blocks : block_check s r ≡ Ok tt

-- a stage that reads: its check passed, and the rest reads
check_then : (c : Result ⊤ Fault) (rest : Result Bed Fault) (r : Bed) → then_check Err c rest ≡ Ok r → (c ≡ Ok tt) × (rest ≡ Ok r)
check_then c rest r = went Err c rest (Ok r) (read_apart r)

record Went (c : Result ℕ Fault) (rest : Result Bed Fault) (r : Bed) : Type 0 where
  end : ℕ
  read : c ≡ Ok end
  on : rest ≡ Ok r

next_then : (c : Result ℕ Fault) (rest : Result Bed Fault) (r : Bed) → then_next Err c rest ≡ Ok r → Went c rest r
next_then (Ok n) rest r e = record { end = n; read = refl; on = e }
next_then (Err x) rest r e = absurd (read_apart r x e)

module _ (s : List ℕ) (r : Bed) where
  pub accepts_of : bed_check s ≡ Ok r → Accepts s r
  unfolding bed_stages after_text after_words after_columns after_spans
  accepts_of e =
      let n = word_count s 0 in
      let q = bed_record n (length s) (line_values s) in
      let a = check_then (text_check s) (after_text s) r (checked_of s r e) in
      let b = check_then (bed_words_check s n) (after_words s n) r a.1 in
      let c = next_then (columns_from (take n bed_columns) 0 s 0) (after_columns s n (line_values s)) r b.1 in
      let d = check_then (last_line_check s 0) (then_check Err (span_check q (line_values s)) (after_spans s q)) r c.on in
      let f = check_then (span_check q (line_values s)) (after_spans s q) r d.1 in
      let g = check_then (block_check s q) (Ok q) r f.1 in
      let i : q ≡ r = cc g.1 in
      record { text = a.0; number = b.0; end = c.end; read = c.read; line = d.0; is = sym i; spans = rw i at f.0; blocks = rw i at g.0 }

  pub accepts_is : Accepts s r → bed_check s ≡ Ok r
  unfolding bed_stages after_text after_words after_columns after_spans
  accepts_is a = checked_is s r (rw (a.text, a.number, a.read, a.line, ← a.is, a.spans, a.blocks))

-- the checks one by one
pub words_of_lem : (s : List ℕ) (n : ℕ) → bed_words_check s n ≡ Ok tt → WordNumber n
words_of_lem s n e = number_of_lem n (words_hold s 0 n column.all (is_word_count n) e).1

pub span_of : (r : Bed) (vs : List ℕ) → span_check r vs ≡ Ok tt → r.chromStart < r.chromEnd
unfolding span_check
span_of r vs e = ltb-true r.chromStart r.chromEnd (require_passes (ltb r.chromStart r.chromEnd) _ _ e).0

pub thick_of : (r : Bed) (vs : List ℕ) → span_check r vs ≡ Ok tt → thick_fits r ≡ true
unfolding span_check
thick_of r vs e = (require_passes (thick_fits r) _ _ (require_passes (ltb r.chromStart r.chromEnd) _ _ e).1).0

pub fill_of : (s : List ℕ) (r : Bed) → block_check s r ≡ Ok tt → blocks_fill 0 (r.chromEnd - r.chromStart) (bed_starts s r) (bed_sizes s r) ≡ true
unfolding block_check
fill_of s r e = (require_passes _ (Ok tt) _ e).0

-- the lists of the blocks are as long as their count says
module _ (s : List ℕ) (e : ℕ) (read : columns_from (take (word_count s 0) bed_columns) 0 s 0 ≡ Ok e) (len : ℕ) where
  abbrev made : Bed
  made = bed_record (word_count s 0) len (line_values s)

  module _ (w : word_count s 0 ≡ column.all) where
    columns_all : take (word_count s 0) bed_columns ≡ bed_columns
    columns_all = rw w all_columns

    pub read_all : columns_from bed_columns 0 s 0 ≡ Ok e
    read_all = rw columns_all at read

    count_given : made.blockCount ≡ value_of (values_from bed_columns 0 s 0) column.block_count
    unfolding bed_record
    count_given = rw (lt-ltb column.block_count (word_count s 0) (omega arith), columns_all)

    sizes_given : bed_sizes s made ≡ values_of (bytes_of s (word_at s 0 column.block_sizes))
    unfolding bed_sizes bed_record
    sizes_given = rw w

    starts_given : bed_starts s made ≡ values_of (bytes_of s (word_at s 0 column.block_starts))
    unfolding bed_starts bed_record
    starts_given = rw w

  module _ (h : word_count s 0 ≤ 9) where
    count_one : made.blockCount ≡ 1
    unfolding bed_record
    count_one = rw (le-ltb column.block_count (word_count s 0) h)

    sizes_one : bed_sizes s made ≡ (made.chromEnd - made.chromStart) ∷ []
    unfolding bed_sizes bed_record
    sizes_one = rw (ne_eqb (word_count s 0) column.all (λ q. omega arith))

    starts_one : bed_starts s made ≡ 0 ∷ []
    unfolding bed_starts bed_record
    starts_one = rw (ne_eqb (word_count s 0) column.all (λ q. omega arith))

  module _ (number : WordNumber (word_count s 0)) where
    pub sizes_count : length (bed_sizes s made) ≡ made.blockCount
    sizes_count = by_number number _ (λ a h. rw (sizes_one h, count_one h)) (λ q. rw (sizes_given q, count_given q) (block_sizes_lem s e (read_all q) q).2)

    pub starts_count : length (bed_starts s made) ≡ made.blockCount
    starts_count = by_number number _ (λ a h. rw (starts_one h, count_one h)) (λ q. rw (starts_given q, count_given q) (block_starts_lem s e (read_all q) q).2)

-- what an accepted line shows
module _ (s : List ℕ) (r : Bed) (ok : bed_check s ≡ Ok r) where
  pub accepted_number : WordNumber (word_count s 0)
  accepted_number = words_of_lem s (word_count s 0) (accepts_of s r ok).number

  pub accepted_span : r.chromStart < r.chromEnd
  accepted_span = span_of r (line_values s) (accepts_of s r ok).spans

  pub accepted_fills : blocks_fill 0 (r.chromEnd - r.chromStart) (bed_starts s r) (bed_sizes s r) ≡ true
  accepted_fills = fill_of s r (accepts_of s r ok).blocks

  pub accepted_count : length (bed_sizes s r) ≡ r.blockCount
  accepted_count =
      let a = accepts_of s r ok in
      rw a.is (sizes_count s a.end a.read (length s) accepted_number)

  pub accepted_starts : length (bed_starts s r) ≡ r.blockCount
  accepted_starts =
      let a = accepts_of s r ok in
      rw a.is (starts_count s a.end a.read (length s) accepted_number)
