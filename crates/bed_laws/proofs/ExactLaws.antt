-- A BED line is accepted, with the record that it says: with bed's LineLaws, a text is accepted exactly when it is one. Assumes nothing.
use mathlib.Core.Path.{◌≡◌, refl, sym, ap, ◌∙◌}
use mathlib.Core.List.{List, []}
use Prim.Native.Nat.{ℕ, ◌-◌, ◌≤◌, ◌<◌}
use native.Mathlib.Omega.{arith}
use lib.ListN.{length, get_or, take, length-take}
use borrow.Author.Tests.{lt-ltb, le-ltb, le-leb}
use Rattle.std.specs.Prelude.{Ok}
use Rattle.ledger.specs.declared.Part.{Part}
use Rattle.ledger.specs.declared.Strand.TheVariants.{Dot}
use Rattle.ledger.specs.Strands.{strand_letter}
use Rattle.ledger.specs.Parts.{part_at}
use Rattle.text.specs.Words.{word_at, word_count}
use Rattle.text.proofs.Laws.{either}
use Rattle.text.proofs.CheckLaws.{words_good, text_is, one_is}
use Rattle.kinds.specs.declared.Kind.TheVariants.{Name}
use Rattle.columns.specs.Columns.{value_of, place_of}
use Rattle.columns.specs.Names.{part_of}
use Rattle.columns.specs.Places.{kind_at}
use Rattle.columns.proofs.Meant.{spells_lists}
use Rattle.columns.proofs.SpellsLaws.{Reads, spells_read}
use Rattle.columns.proofs.PlaceLaws.{value_first}
use Rattle.columns.proofs.WordLaws.{strand_is_lem}
use Rattle.blocks.specs.Rules.{Fills}
use Rattle.blocks.proofs.RuleLaws.{fills_is}
use Rattle.bed.specs.declared.Bed.{Bed}
use Rattle.bed.specs.Columns as column
use Rattle.bed.specs.Table.{bed_columns}
use Rattle.bed.specs.Records.{is_word_count, value_or, place_or, bed_record, bed_sizes, bed_starts}
use Rattle.bed.specs.Read.{bed_words_check, span_check, block_check, bed_check}
use Rattle.bed.specs.Rules.{WordNumber, BedLine}
use Rattle.bed.proofs.ReadLaws.{value_there, value_left}
use Rattle.bed.proofs.ColumnLaws.{number_is, most_words, least_words}
use Rattle.bed.proofs.AcceptLaws.{line_values, Accepts, accepts_is, sizes_count, starts_count}
use Rattle.bed.proofs.LineLaws.{name_part, listed_sizes, listed_starts, span_size, span_start}

-- the number of words
words_is : (s : List ℕ) (n : ℕ) → WordNumber n → bed_words_check s n ≡ Ok tt
words_is s n w = sym (words_good s 0 n column.all (is_word_count n) (most_words w) (number_is w))

-- the spans and the blocks
span_is : (r : Bed) (vs : List ℕ) → r.chromStart < r.chromEnd → r.chromStart ≤ r.thickStart → r.thickStart ≤ r.thickEnd → r.thickEnd ≤ r.chromEnd → span_check r vs ≡ Ok tt
unfolding span_check
span_is r vs h a b c = rw (lt-ltb r.chromStart r.chromEnd h, le-leb r.chromStart r.thickStart a, le-leb r.thickStart r.thickEnd b, le-leb r.thickEnd r.chromEnd c)

block_is_lem : (s : List ℕ) (r : Bed) → length (bed_starts s r) ≡ r.blockCount → length (bed_sizes s r) ≡ r.blockCount → Fills 0 (r.chromEnd - r.chromStart) r.blockCount (bed_starts s r) (bed_sizes s r) → block_check s r ≡ Ok tt
unfolding block_check
block_is_lem s r a b f = rw (fills_is 0 (r.chromEnd - r.chromStart) r.blockCount (bed_starts s r) (bed_sizes s r) a b f)

-- a column or its default
module _ (n : ℕ) (us : List ℕ) (k : ℕ) where
  value_is : (d v : ℕ) → (k < n → v ≡ value_of us k) → (n ≤ k → v ≡ d) → v ≡ value_or n us k d
  value_is d v there left = either n k _ (λ h. left h ∙ value_left n us k d h) (λ h. value_there n us k d v h (there h))

  part_is : (len : ℕ) (p : Part) → (k < n → p ≡ part_at (place_of us k) (value_of us k)) → (n ≤ k → p ≡ part_at len 0) → p ≡ part_at (place_or n us k len) (value_or n us k 0)
  part_is len p there left = either n k _ (λ h. rw (le-ltb k n h) (left h)) (λ h. rw (lt-ltb k n h) (there h))

-- two records with the same fields are the same
bed_same : (r q : Bed) → r.words ≡ q.words → r.chrom ≡ q.chrom → r.chromStart ≡ q.chromStart → r.chromEnd ≡ q.chromEnd → r.name ≡ q.name → r.score ≡ q.score → r.strand ≡ q.strand → r.thickStart ≡ q.thickStart → r.thickEnd ≡ q.thickEnd → r.itemRgb ≡ q.itemRgb → r.blockCount ≡ q.blockCount → r ≡ q
bed_same r q a b c d e f g h i j k =
    let z : ◌≡◌ {A = Bed} (record {
      words = r.words;
      chrom = r.chrom;
      chromStart = r.chromStart;
      chromEnd = r.chromEnd;
      name = r.name;
      score = r.score;
      strand = r.strand;
      thickStart = r.thickStart;
      thickEnd = r.thickEnd;
      itemRgb = r.itemRgb;
      blockCount = r.blockCount;
    }) q = rw (a, b, c, d, e, f, g, h, i, j, k) in
    z

-- and a BED line is accepted, with the record that it says
module _ (s : List ℕ) (r : Bed) (vs : List ℕ) (ls : List (List ℕ)) (starts sizes : List ℕ) (line : BedLine s vs ls r starts sizes) where
  reads : Reads (take (word_count s 0) bed_columns) 0 s 0 vs
  unfolding bed_columns
  reads = spells_read (take (word_count s 0) bed_columns) 0 s 0 vs ls (rw length-take (omega (arith, most_words line.number))) line.spelt

  pub line_sizes : sizes ≡ bed_sizes s r
  line_sizes = either r.words column.block_count _
      (λ h. line.span_size h ∙ sym (span_size s r line.number line.words h))
      (λ h. line.listed_sizes h ∙ ap (λ (l : List (List ℕ)). get_or l column.block_sizes []) (spells_lists line.spelt) ∙ sym (listed_sizes s r line.number line.words h))

  pub line_starts : starts ≡ bed_starts s r
  line_starts = either r.words column.block_count _
      (λ h. line.span_start h ∙ sym (span_start s r line.number line.words h))
      (λ h. line.listed_starts h ∙ ap (λ (l : List (List ℕ)). get_or l column.block_starts []) (spells_lists line.spelt) ∙ sym (listed_starts s r line.number line.words h))

  value_at : (k : ℕ) → get_or vs k 0 ≡ value_of (line_values s) k
  value_at k = sym (ap (λ (l : List ℕ). get_or l k 0) reads.values) ∙ value_first (line_values s) k

  part_at_lem : (k : ℕ) → k < word_count s 0 → kind_at bed_columns k ≡ Name → part_of (word_at s 0 k) ≡ part_at (place_of (line_values s) k) (value_of (line_values s) k)
  part_at_lem k h q = sym (name_part s reads.end line.number reads.read k h q)

  there : (k : ℕ) → k < word_count s 0 → k < r.words
  there k h = omega (arith, line.words)

  left : (k : ℕ) → word_count s 0 ≤ k → r.words ≤ k
  left k h = omega (arith, line.words)

  said : r ≡ bed_record (word_count s 0) (length s) (line_values s)
  unfolding bed_record bed_columns
  said =
      let n = word_count s 0 in
      let us = line_values s in
      let start : r.chromStart ≡ value_of us column.chrom_start = line.chromStart ∙ value_at column.chrom_start in
      let end : r.chromEnd ≡ value_of us column.chrom_end = line.chromEnd ∙ value_at column.chrom_end in
      bed_same r (bed_record n (length s) us) line.words (line.chrom ∙ part_at_lem column.chrom (omega (arith, least_words line.number)) refl) start end
      (part_is n us column.name (length s) r.name (λ h. line.name (there column.name h) ∙ part_at_lem column.name h refl) (λ h. line.no_name (left column.name h)))
      (value_is n us column.score 0 r.score (λ h. line.score (there column.score h) ∙ value_at column.score) (λ h. line.no_score (left column.score h)))
      (strand_is_lem r.strand (value_or n us column.strand (strand_letter Dot)) (value_is n us column.strand (strand_letter Dot) (strand_letter r.strand) (λ h. line.strand (there column.strand h) ∙ value_at column.strand) (λ h. ap strand_letter (line.no_strand (left column.strand h)))))
      (value_is n us column.thick_start (value_of us column.chrom_start) r.thickStart (λ h. line.thickStart (there column.thick_start h) ∙ value_at column.thick_start) (λ h. line.no_thick_start (left column.thick_start h) ∙ start))
      (value_is n us column.thick_end (value_of us column.chrom_end) r.thickEnd (λ h. line.thickEnd (there column.thick_end h) ∙ value_at column.thick_end) (λ h. line.no_thick_end (left column.thick_end h) ∙ end))
      (value_is n us column.item_rgb 0 r.itemRgb (λ h. line.itemRgb (there column.item_rgb h) ∙ value_at column.item_rgb) (λ h. line.no_item_rgb (left column.item_rgb h)))
      (value_is n us column.block_count 1 r.blockCount (λ h. line.blockCount (there column.block_count h) ∙ value_at column.block_count) (λ h. line.no_blocks (left column.block_count h)))

  line_accepts : Accepts s r
  line_accepts =
      let q = said in
      let some : length (bed_starts s r) ≡ r.blockCount = rw q (starts_count s reads.end reads.read (length s) line.number) in
      let each : length (bed_sizes s r) ≡ r.blockCount = rw q (sizes_count s reads.end reads.read (length s) line.number) in
      record {
        text = text_is s line.short line.allowed;
        number = words_is s (word_count s 0) line.number;
        end = reads.end;
        read = reads.read;
        line = one_is s line.one_line;
        is = q;
        spans = span_is r (line_values s) line.span line.thick_low line.thick_order line.thick_high;
        blocks = block_is_lem s r some each (rw (line_starts, line_sizes) at line.blocks);
      }

pub line_is : (s : List ℕ) (r : Bed) (vs : List ℕ) (ls : List (List ℕ)) (starts sizes : List ℕ) → BedLine s vs ls r starts sizes → bed_check s ≡ Ok r
line_is s r vs ls starts sizes line = accepts_is s r (line_accepts s r vs ls starts sizes line)
