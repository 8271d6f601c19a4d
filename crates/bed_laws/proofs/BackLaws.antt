-- The standard text of a BED record that may be written reads back as that record, with the same names and the same rows. Assumes nothing.
use mathlib.Core.Path.{◌≡◌, refl, sym, ap, ◌∙◌}
use mathlib.Core.Bool.{true, false}
use mathlib.Core.List.{List, [], ◌∷◌}
use Prim.Native.Nat.{ℕ, ◌+◌, ◌-◌, ◌≤◌, ◌<◌}
use native.Mathlib.Omega.{arith}
use lib.ListN.{length, take, get_or}
use lib.Seq.{get_or-take, length-take-le}
use lib.Dec.{eqb}
use borrow.Author.Tests.{lt-ltb, le-ltb, eqb-true, eq-eqb, ne_eqb}
use Rattle.std.specs.Prelude.{Ok}
use Rattle.ledger.specs.Limits.{text_limit, largest_position}
use Rattle.text.proofs.CheckLaws.{fed_allowed, fed_line_lem}
use Rattle.text.specs.declared.Class.TheVariants.{Allowed}
use Rattle.text.specs.Scan.{run}
use Rattle.text.specs.Parts.{part_bytes}
use Rattle.text.specs.Pieces.{lines_of, line_of, words_of}
use Rattle.text.specs.Words.{word_at, word_count, bytes_of}
use Rattle.text.proofs.Laws.{either}
use Rattle.text.proofs.TextLaws.{both}
use Rattle.text.proofs.PieceLaws.{Worded, line_joined, words_joined, word_bytes}
use Rattle.writing.proofs.ListLaws.{list_values}
use Rattle.columns.proofs.Meant.{Meant, lists_in, meant_spells}
use Rattle.columns.proofs.WordLaws.{part_bytes_lem}
use Rattle.blocks.specs.Blocks.{order_from, blocks_fill, sums_from, shifted, subtracted}
use Rattle.blocks.specs.Rules.{Fills}
use Rattle.blocks.proofs.RuleLaws.{fills_of, fill_low, fill_shift, back_shifted, sums_only, subtracted_length}
use Rattle.bed.specs.declared.Bed.{Bed}
use Rattle.bed.specs.Columns as column
use Rattle.bed.specs.Table.{bed_columns}
use Rattle.bed.specs.Records.{bed_sizes, bed_starts, bed_targets, bed_queries}
use Rattle.bed.specs.Read.{bed_check, bed_read}
use Rattle.bed.specs.Rules.{WordNumber, BedLine, placed}
use Rattle.bed.specs.Write.{write_check, bed_words, bed_text}
use Rattle.bed.proofs.ColumnLaws.{most_words, least_words, by_number}
use Rattle.bed.proofs.ReadLaws.{read_roomy}
use Rattle.bed.proofs.LineLaws.{listed_sizes, listed_starts, span_size, span_start}
use Rattle.bed_laws.proofs.ExactLaws.{line_is}
use Rattle.bed_laws.proofs.BackWordLaws.{MayWrite, may_write, word_values, sizes_between, starts_between, words_spell, words_worded}

no_bytes : (xs : List ℕ) → length xs ≡ 0 → [] ≡ xs
no_bytes [] e = refl
no_bytes (x ∷ xs) e = absurd (omega arith)

-- one block that fills a span is the span
one_block : (first last : ℕ) (ss zs : List ℕ) → length ss ≡ 1 → blocks_fill first last ss zs ≡ true → (ss ≡ first ∷ []) × (zs ≡ (last - first) ∷ [])
unfolding blocks_fill order_from
one_block first last [] zs l e = absurd (omega arith)
one_block first last (x ∷ []) [] l e = absurd (let z : ◌≡◌ {A = ℕ} 0 1 = cc in omega arith)
one_block first last (x ∷ []) (y ∷ []) l e =
    let b = both (eqb x first) (eqb (x + y) last) e in
    let p = eqb-true x first b.0 in
    let q = eqb-true (x + y) last b.1 in
    let d : y ≡ last - first = omega arith in
    (rw p, rw d)
one_block first last (x ∷ []) (y ∷ z ∷ zs) l e =
    let b = both (eqb x first) false e in
    absurd (let q : ◌≡◌ {A = ℕ} 0 1 = cc b.1 in omega arith)
one_block first last (x ∷ w ∷ ss) zs l e = absurd (omega arith)

-- what a record that may be written reads back as
module _ (r : Bed) (chrom name ts qs zs : List ℕ) (ok : MayWrite r chrom name ts qs zs) where
  abbrev s : List ℕ
  s = bed_text r chrom name ts zs

  abbrev words : List (List ℕ)
  words = bed_words r chrom name ts zs

  abbrev n : ℕ
  n = r.blockCount

  worded : Worded (take r.words words)
  worded = words_worded r chrom name ts qs zs ok

  text_words : words_of (line_of s) ≡ take r.words words
  unfolding bed_text
  text_words = rw (line_joined 9 (take r.words words) [] refl worded) (words_joined 9 (take r.words words) refl worded)

  text_count : word_count s 0 ≡ r.words
  unfolding word_count bed_words
  text_count = ap length text_words ∙ length-take-le r.words words (most_words ok.rules.number)

  text_allowed : run Allowed s ≡ length s
  unfolding bed_text
  text_allowed = fed_allowed 9 refl (take r.words words) worded

  text_line : lines_of s ≡ line_of s ∷ []
  unfolding bed_text
  text_line = fed_line_lem 9 refl (take r.words words) worded

  text_word : (k : ℕ) → k < r.words → bytes_of s (word_at s 0 k) ≡ get_or words k []
  text_word k h = word_bytes s 0 k ∙ ap (λ (x : List (List ℕ)). get_or x k []) text_words ∙ get_or-take r.words words k [] h

  -- the two lists
  module _ (q : r.words ≡ column.all) where
    sizes_twelve : bed_sizes s (placed s r) ≡ take n zs
    unfolding bed_sizes placed bed_words
    sizes_twelve = rw (eq-eqb r.words column.all q, text_word column.block_sizes (omega arith)) (list_values 1 largest_position (take n zs) (omega arith) (sizes_between r chrom name ts qs zs ok))

    starts_twelve : bed_starts s (placed s r) ≡ subtracted r.chromStart (take n ts)
    unfolding bed_starts placed bed_words
    starts_twelve = rw (eq-eqb r.words column.all q, text_word column.block_starts (omega arith)) (list_values 0 largest_position (subtracted r.chromStart (take n ts)) (omega arith) (starts_between r chrom name ts qs zs ok))

  targets_length : length (take n ts) ≡ n
  targets_length = length-take-le n ts ok.rules.rows.target_rows

  module _ (h : r.words ≤ column.block_count) where
    one : (take n ts ≡ r.chromStart ∷ []) × (take n zs ≡ (r.chromEnd - r.chromStart) ∷ [])
    one = one_block r.chromStart r.chromEnd (take n ts) (take n zs) (targets_length ∙ ok.rules.no_blocks h) ok.fill

    sizes_one : bed_sizes s (placed s r) ≡ take n zs
    unfolding bed_sizes placed
    sizes_one = rw (ne_eqb r.words column.all (λ q. omega arith)) (sym one.1)

    starts_one : bed_starts s (placed s r) ≡ subtracted r.chromStart (take n ts)
    unfolding bed_starts placed subtracted
    starts_one =
        let z : 0 ≡ r.chromStart - r.chromStart = omega arith in
        rw (ne_eqb r.words column.all (λ q. omega arith), one.0) (ap (λ (x : ℕ). x ∷ []) z)

  sizes_read : bed_sizes s (placed s r) ≡ take n zs
  sizes_read = by_number ok.rules.number _ (λ a h. sizes_one h) sizes_twelve

  starts_read : bed_starts s (placed s r) ≡ subtracted r.chromStart (take n ts)
  starts_read = by_number ok.rules.number _ (λ a h. starts_one h) starts_twelve

  targets_moved : shifted r.chromStart (subtracted r.chromStart (take n ts)) ≡ take n ts
  targets_moved = back_shifted r.chromStart r.chromEnd (take n ts) (fill_low r.chromStart r.chromEnd (take n ts) (take n zs) ok.fill)

  targets_read : bed_targets s (placed s r) ≡ take n ts
  unfolding bed_targets placed
  targets_read = ap (shifted r.chromStart) starts_read ∙ targets_moved

  queries_read : bed_queries s (placed s r) ≡ take n qs
  unfolding bed_queries sums_from
  queries_read = ap (sums_from 0) sizes_read ∙ sym (sums_only 0 (take n qs) (take n zs) ok.sums)

  -- the blocks from chromStart on fill the span
  starts_fill : blocks_fill 0 (r.chromEnd - r.chromStart) (subtracted r.chromStart (take n ts)) (take n zs) ≡ true
  starts_fill =
      let x : r.chromStart + 0 ≡ r.chromStart = omega arith in
      let y : r.chromStart + (r.chromEnd - r.chromStart) ≡ r.chromEnd = omega (arith, ok.rules.span) in
      let m = fill_shift r.chromStart 0 (r.chromEnd - r.chromStart) (subtracted r.chromStart (take n ts)) (take n zs) in
      sym m ∙ rw (x, y, targets_moved) ok.fill

  blocks_read : Fills 0 (r.chromEnd - r.chromStart) n (bed_starts s (placed s r)) (bed_sizes s (placed s r))
  blocks_read =
      rw (starts_read, sizes_read)
      (fills_of 0 (r.chromEnd - r.chromStart) n (subtracted r.chromStart (take n ts)) (take n zs) (subtracted_length r.chromStart (take n ts) ∙ targets_length) (length-take-le n zs ok.rules.rows.size_rows) starts_fill)

  -- the names
  chrom_read : part_bytes s (placed s r).chrom ≡ chrom
  unfolding placed bed_words
  chrom_read = part_bytes_lem s (word_at s 0 column.chrom) ∙ text_word column.chrom (omega (arith, least_words ok.rules.number))

  name_read : part_bytes s (placed s r).name ≡ name
  unfolding placed bed_words part_bytes
  name_read =
      either r.words column.name _
      (λ h. rw (le-ltb column.name r.words h) (no_bytes name (ok.rules.no_name h)))
      (λ h. rw (lt-ltb column.name r.words h) (part_bytes_lem s (word_at s 0 column.name) ∙ text_word column.name h))

  -- the text is a BED line that says the record
  value_read : (k : ℕ) → k < r.words → get_or (word_values r chrom name) k 0 ≡ get_or (take r.words (word_values r chrom name)) k 0
  value_read k h = sym (get_or-take r.words (word_values r chrom name) k 0 h)

  line_read : length s ≤ text_limit
      → BedLine s (take r.words (word_values r chrom name)) (lists_in (take (word_count s 0) bed_columns) (words_of (line_of s))) (placed s r) (bed_starts s (placed s r)) (bed_sizes s (placed s r))
  unfolding placed
  line_read short =
      let k = ok.rules in
      let three = least_words k.number in
      let number : WordNumber (word_count s 0) = rw text_count k.number in
      let w : r.words ≡ word_count s 0 = sym text_count in
      let words : Meant (take (word_count s 0) bed_columns) 0 (words_of (line_of s)) (take r.words (word_values r chrom name)) = rw (text_count, text_words) (words_spell r chrom name ts qs zs ok) in
      record {
        short = short;
        allowed = text_allowed;
        one_line = text_line;
        number = number;
        spelt = meant_spells words;
        words = w;
        chrom = refl;
        chromStart = value_read column.chrom_start (omega arith);
        chromEnd = value_read column.chrom_end (omega arith);
        name = λ h. rw (lt-ltb column.name r.words h);
        score = λ h. value_read column.score h;
        strand = λ h. value_read column.strand h;
        thickStart = λ h. value_read column.thick_start h;
        thickEnd = λ h. value_read column.thick_end h;
        itemRgb = λ h. value_read column.item_rgb h;
        blockCount = λ h. value_read column.block_count h;
        listed_sizes = listed_sizes s (placed s r) number w;
        listed_starts = listed_starts s (placed s r) number w;
        no_name = λ h. rw (le-ltb column.name r.words h);
        no_score = k.no_score;
        no_strand = k.no_strand;
        no_thick_start = k.no_thick_start;
        no_thick_end = k.no_thick_end;
        no_item_rgb = k.no_item_rgb;
        no_blocks = k.no_blocks;
        span_size = span_size s (placed s r) number w;
        span_start = span_start s (placed s r) number w;
        span = k.span;
        thick_low = k.thick_low;
        thick_order = k.thick_order;
        thick_high = k.thick_high;
        blocks = blocks_read;
      }

-- THE ROUND TRIP: the writer's checks hold, and the text is short enough
module _ (r : Bed) (chrom name ts qs zs : List ℕ) (ok : write_check r chrom name ts qs zs ≡ Ok tt) (short : length (bed_text r chrom name ts zs) ≤ text_limit) where
  abbrev text : List ℕ
  text = bed_text r chrom name ts zs

  may : MayWrite r chrom name ts qs zs
  may = may_write r chrom name ts qs zs ok

  pub back_check : bed_check text ≡ Ok (placed text r)
  back_check = line_is text (placed text r) _ _ _ _ (line_read r chrom name ts qs zs may short)

  pub back_chrom : part_bytes text (placed text r).chrom ≡ chrom
  back_chrom = chrom_read r chrom name ts qs zs may

  -- a name left out is empty
  pub back_name : part_bytes text (placed text r).name ≡ name
  back_name = name_read r chrom name ts qs zs may

  pub back_sizes : bed_sizes text (placed text r) ≡ take r.blockCount zs
  back_sizes = sizes_read r chrom name ts qs zs may

  pub back_targets : bed_targets text (placed text r) ≡ take r.blockCount ts
  back_targets = targets_read r chrom name ts qs zs may

  pub back_queries : bed_queries text (placed text r) ≡ take r.blockCount qs
  back_queries = queries_read r chrom name ts qs zs may

  -- and with room for its blocks the text is read
  pub back_read : (room : ℕ) → r.blockCount ≤ room → bed_read text room ≡ Ok (placed text r)
  unfolding placed
  back_read room h = read_roomy text (placed text r) room back_check h
