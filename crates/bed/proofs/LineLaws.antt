-- An accepted text is a BED line that says its record. Assumes nothing.
use mathlib.Core.Path.{◌≡◌, refl, sym, ap, ◌∙◌}
use mathlib.Core.Bool.{true}
use mathlib.Core.List.{List, [], ◌∷◌}
use Prim.Native.Nat.{ℕ, ◌-◌, ◌≤◌, ◌<◌}
use native.Mathlib.Omega.{arith}
use lib.ListN.{length, get_or, take, length-take}
use lib.Seq.{get_or-take}
use lib.Dec.{leb}
use borrow.Author.Tests.{lt-ltb, le-ltb, leb-true, ne_eqb}
use Rattle.std.specs.Prelude.{Ok}
use Rattle.ledger.specs.Strands.{strand_of, strand_is, strand_letter}
use Rattle.ledger.specs.Parts.{part_at}
use Rattle.text.specs.Pieces.{line_of, words_of}
use Rattle.text.specs.Words.{word_at, word_count, bytes_of}
use Rattle.text.proofs.TextLaws.{both}
use Rattle.text.proofs.CheckLaws.{text_of_lem, one_of, some_text}
use Rattle.text.proofs.PieceLaws.{word_bytes}
use Rattle.kinds.specs.declared.Kind.TheVariants.{Name}
use Rattle.kinds.specs.Kinds.{spelt}
use Rattle.kinds.proofs.RangeLaws.{name_spelt, strand_spelt}
use Rattle.kinds.proofs.SpeltAsLaws.{numbers_in}
use Rattle.columns.specs.Columns.{columns_from, values_from, value_of, place_of}
use Rattle.columns.specs.Spells.{firsts}
use Rattle.columns.specs.Names.{part_of}
use Rattle.columns.specs.Places.{kind_at, count_before}
use Rattle.columns.proofs.Meant.{Meant, lists_in, meant_spells, list_at}
use Rattle.columns.proofs.SpellsLaws.{columns_mean, place_is}
use Rattle.columns.proofs.PlaceLaws.{spelt_at, value_first, value_second}
use Rattle.columns.proofs.WordLaws.{word_length, letter_is}
use Rattle.blocks.proofs.RuleLaws.{fills_of}
use Rattle.bed.specs.declared.Bed.{Bed}
use Rattle.bed.specs.Columns as column
use Rattle.bed.specs.Table.{bed_columns}
use Rattle.bed.specs.Records.{value_or, bed_record, bed_sizes, bed_starts}
use Rattle.bed.specs.Read.{thick_fits, bed_check}
use Rattle.bed.specs.Rules.{WordNumber, BedLine}
use Rattle.bed.proofs.ColumnLaws.{most_words, least_words, by_number}
use Rattle.bed.proofs.AcceptLaws.{line_values, Accepts, accepts_of, words_of_lem, span_of, thick_of, accepted_count, accepted_starts, accepted_fills}

-- the spans
thick_order : (r : Bed) → thick_fits r ≡ true → (r.chromStart ≤ r.thickStart) × (r.thickStart ≤ r.thickEnd) × (r.thickEnd ≤ r.chromEnd)
thick_order r e =
    let a = both (leb r.chromStart r.thickStart) _ e in
    let b = both (leb r.thickStart r.thickEnd) _ a.1 in
    (leb-true _ _ a.0, leb-true _ _ b.0, leb-true _ _ b.1)

-- the columns of a line that is read, by their numbers
module _ (s : List ℕ) (e : ℕ) (number : WordNumber (word_count s 0)) (read : columns_from (take (word_count s 0) bed_columns) 0 s 0 ≡ Ok e) where
  columns_count : word_count s 0 ≡ length (take (word_count s 0) bed_columns)
  unfolding bed_columns
  columns_count = rw length-take (omega (arith, most_words number))

  pub line_spells : Meant (take (word_count s 0) bed_columns) 0 (words_of (line_of s)) (firsts (line_values s))
  line_spells = columns_mean (take (word_count s 0) bed_columns) 0 s 0 e columns_count read

  module _ (k : ℕ) (h : k < word_count s 0) where
    -- word k spells value k
    pub value_spelt : spelt (kind_at bed_columns k) (count_before (take (word_count s 0) bed_columns) 0 (firsts (line_values s)) 0 k) (bytes_of s (word_at s 0 k)) ≡ Ok (value_of (line_values s) k)
    value_spelt =
        let p = spelt_at line_spells k (omega (arith, columns_count)) in
        rw (word_bytes s 0 k, ← value_first (line_values s) k, ← get_or-take (word_count s 0) bed_columns k Name h) p

    -- and stands at place k
    pub place_spelt : place_of (line_values s) k ≡ (word_at s 0 k).start
    place_spelt = sym (value_second (line_values s) k) ∙ place_is (take (word_count s 0) bed_columns) 0 s 0 e read k (omega (arith, columns_count))

    pub name_part : kind_at bed_columns k ≡ Name → part_at (place_of (line_values s) k) (value_of (line_values s) k) ≡ part_of (word_at s 0 k)
    name_part q =
        let p = name_spelt _ (bytes_of s (word_at s 0 k)) (value_of (line_values s) k) (rw q at value_spelt) in
        let v : value_of (line_values s) k ≡ (word_at s 0 k).end - (word_at s 0 k).start = p.0 ∙ word_length s k in
        rw (place_spelt, v)

-- a column or its default
module _ (n : ℕ) (us : List ℕ) (k d : ℕ) where
  value_got : k < n → value_or n us k d ≡ value_of us k
  value_got h = rw (lt-ltb k n h)

  value_none : n ≤ k → value_or n us k d ≡ d
  value_none h = rw (le-ltb k n h)

-- the lists of the block columns are those of their words; where they are left out, one block
module _ (s : List ℕ) (r : Bed) (number : WordNumber (word_count s 0)) (words : r.words ≡ word_count s 0) where
  abbrev listed : List (List ℕ)
  listed = lists_in (take (word_count s 0) bed_columns) (words_of (line_of s))

  all_words : column.block_count < r.words → word_count s 0 ≡ column.all
  all_words h = by_number number _ (λ a b. absurd (omega arith)) (λ q. q)

  word_count_lem : word_count s 0 ≡ length (words_of (line_of s))
  unfolding word_count
  word_count_lem = refl

  list_word : (k : ℕ) → k < column.all → column.block_count < r.words → get_or listed k [] ≡ numbers_in (get_or bed_columns k Name) (bytes_of s (word_at s 0 k))
  unfolding bed_columns
  list_word k l h =
      let w = all_words h in
      let n : length (words_of (line_of s)) ≡ column.all = sym word_count_lem ∙ w in
      rw w (list_at bed_columns (words_of (line_of s)) k l (omega arith) ∙ ap (numbers_in (get_or bed_columns k Name)) (sym (word_bytes s 0 k)))

  pub listed_sizes : column.block_count < r.words → bed_sizes s r ≡ get_or listed column.block_sizes []
  unfolding bed_sizes bed_columns
  listed_sizes h = rw (words ∙ all_words h) (sym (list_word column.block_sizes (omega arith) h))

  pub listed_starts : column.block_count < r.words → bed_starts s r ≡ get_or listed column.block_starts []
  unfolding bed_starts bed_columns
  listed_starts h = rw (words ∙ all_words h) (sym (list_word column.block_starts (omega arith) h))

  pub span_size : r.words ≤ column.block_count → bed_sizes s r ≡ (r.chromEnd - r.chromStart) ∷ []
  unfolding bed_sizes
  span_size h = rw (ne_eqb r.words column.all (λ q. omega arith))

  pub span_start : r.words ≤ column.block_count → bed_starts s r ≡ 0 ∷ []
  unfolding bed_starts
  span_start h = rw (ne_eqb r.words column.all (λ q. omega arith))

-- an accepted line is a BED line that says its record
module _ (s : List ℕ) (r : Bed) (ok : bed_check s ≡ Ok r) where
  abbrev a : Accepts s r
  a = accepts_of s r ok

  abbrev n : ℕ
  n = word_count s 0

  abbrev us : List ℕ
  us = line_values s

  number : WordNumber n
  number = words_of_lem s n a.number

  name_at : (k : ℕ) → k < n → kind_at bed_columns k ≡ Name → part_at (place_of us k) (value_of us k) ≡ part_of (word_at s 0 k)
  name_at k h q = name_part s a.end number a.read k h q

  first_at : (k : ℕ) → value_of us k ≡ get_or (firsts us) k 0
  first_at k = sym (value_first us k)

  letter_at : column.strand < n → strand_letter (strand_is (strand_of (value_of us column.strand))) ≡ value_of us column.strand
  unfolding bed_columns
  letter_at h = letter_is true (value_of us column.strand) (strand_spelt true _ (bytes_of s (word_at s 0 column.strand)) (value_of us column.strand) (value_spelt s a.end number a.read column.strand h)).0

  pub line_of_lem : BedLine s (firsts (values_from (take (word_count s 0) bed_columns) 0 s 0)) (lists_in (take (word_count s 0) bed_columns) (words_of (line_of s))) r (bed_starts s r) (bed_sizes s r)
  unfolding bed_record bed_columns
  line_of_lem =
      let t = text_of_lem s a.text in
      let o = thick_order r (thick_of r us a.spans) in
      let i = a.is in
      let three = least_words number in
      let w : r.words ≡ n = rw i in
      record {
        short = t.0;
        allowed = t.1;
        one_line = one_of s (some_text s (omega arith)) a.line;
        number = number;
        spelt = meant_spells (line_spells s a.end number a.read);
        words = w;
        chrom = rw i (name_at column.chrom (omega arith) refl);
        chromStart = rw i (first_at column.chrom_start);
        chromEnd = rw i (first_at column.chrom_end);
        name = rw i (λ h. rw (lt-ltb column.name n h) (name_at column.name h refl));
        score = rw i (λ h. value_got n us column.score 0 h ∙ first_at column.score);
        strand = rw i (λ h. rw (lt-ltb column.strand n h) (letter_at h ∙ first_at column.strand));
        thickStart = rw i (λ h. value_got n us column.thick_start (value_of us column.chrom_start) h ∙ first_at column.thick_start);
        thickEnd = rw i (λ h. value_got n us column.thick_end (value_of us column.chrom_end) h ∙ first_at column.thick_end);
        itemRgb = rw i (λ h. value_got n us column.item_rgb 0 h ∙ first_at column.item_rgb);
        blockCount = rw i (λ h. value_got n us column.block_count 1 h ∙ first_at column.block_count);
        listed_sizes = listed_sizes s r number w;
        listed_starts = listed_starts s r number w;
        no_name = rw i (λ h. rw (le-ltb column.name n h));
        no_score = rw i (λ h. value_none n us column.score 0 h);
        no_strand = rw i (λ h. rw (le-ltb column.strand n h));
        no_thick_start = rw i (λ h. value_none n us column.thick_start (value_of us column.chrom_start) h);
        no_thick_end = rw i (λ h. value_none n us column.thick_end (value_of us column.chrom_end) h);
        no_item_rgb = rw i (λ h. value_none n us column.item_rgb 0 h);
        no_blocks = rw i (λ h. value_none n us column.block_count 1 h);
        span_size = span_size s r number w;
        span_start = span_start s r number w;
        span = span_of r us a.spans;
        thick_low = o.0;
        thick_order = o.1;
        thick_high = o.2;
        blocks = fills_of 0 (r.chromEnd - r.chromStart) r.blockCount (bed_starts s r) (bed_sizes s r) (accepted_starts s r ok) (accepted_count s r ok) (accepted_fills s r ok);
      }
