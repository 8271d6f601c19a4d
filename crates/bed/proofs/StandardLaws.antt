-- A line in standard form is its record's standard text. Assumes nothing.
use mathlib.Core.Path.{◌≡◌, sym, ap, ◌∙◌}
use mathlib.Core.Bool.{Bool, true, not, ◌&&◌, ◌||◌}
use mathlib.Core.List.{List, [], ◌∷◌, ◌++◌}
use Prim.Native.Nat.{ℕ, zero, suc, ◌+◌, ◌-◌, ◌≤◌, ◌<◌}
use native.Mathlib.Nat.{add-zero}
use native.Mathlib.Omega.{arith}
use lib.ListN.{length, take, drop, get_or, length-take, length-drop, drop_of_length-le}
use lib.Seq.{drop-cons, take_all, get_or-take, get_or-drop}
use lib.Dec.{eqb}
use borrow.Author.Tests.{eq-eqb, eqb-true}
use Rattle.std.specs.Prelude.{Ok, Result}
use Rattle.ledger.specs.Limits.{text_limit}
use Rattle.ledger.specs.declared.Refusal.{Refusal}
use Rattle.text.specs.Scan.{end_of}
use Rattle.text.specs.Pieces.{line_of, words_of, joined, Plain}
use Rattle.text.specs.declared.Extent.{Extent}
use Rattle.text.specs.Words.{next_word, word_at, word_count, bytes_of}
use Rattle.text.specs.Parts.{part_bytes}
use Rattle.text.proofs.Laws.{word_ends, word_next}
use Rattle.text.proofs.ShowLaws.{word_in}
use Rattle.text.proofs.TextLaws.{both}
use Rattle.text.proofs.PieceLaws.{word_bytes}
use Rattle.numbers.specs.Lists.{last_byte}
use Rattle.numbers.proofs.ListLaws.{last_is}
use Rattle.writing.specs.Digits.{digits, list_text}
use Rattle.kinds.specs.declared.Kind.{Kind}
use Rattle.kinds.specs.declared.Kind.TheVariants.{Name}
use Rattle.kinds.specs.SpeltAs.{SpeltAs}
use Rattle.kinds.specs.Words.{colour_text}
use Rattle.kinds.proofs.TidyLaws.{Tidy, standard_word, tidy_word}
use Rattle.columns.specs.Places.{kind_at}
use Rattle.columns.specs.Spells.{Spells, spells_none, spells_more, firsts}
use Rattle.columns.proofs.Meant.{lists_in}
use Rattle.columns.proofs.WordLaws.{word_length}
use Rattle.columns.proofs.PartLaws.{name_word}
use Rattle.blocks.specs.Blocks.{subtracted}
use Rattle.blocks.proofs.RuleLaws.{shifted_back}
use Rattle.bed.specs.declared.Bed.{Bed}
use Rattle.bed.specs.Columns as column
use Rattle.bed.specs.Table.{bed_columns}
use Rattle.bed.specs.Records.{bed_sizes, bed_starts, bed_targets}
use Rattle.bed.specs.Read.{bed_check}
use Rattle.bed.specs.Standard.{Standard}
use Rattle.bed.specs.Rules.{BedLine}
use Rattle.bed.specs.Write.{bed_words, bed_text}
use Rattle.bed.specs.Steps.{Tidied}
use Rattle.bed.proofs.ColumnLaws.{most_words, by_number}
use Rattle.bed.proofs.AcceptLaws.{line_values}
use Rattle.bed.proofs.LineLaws.{line_of_lem}
use Rattle.bed.proofs.RowLaws.{accepted_rows}

-- ---- words that spell values, by their number
record SpeltSo (c : Kind) (w : List ℕ) (v : ℕ) (us : List ℕ) : Type 0 where
  count : ℕ
  says : SpeltAs c count w v us

spells_at : {cs : List Kind} {n : ℕ} {ws : List (List ℕ)} {vs : List ℕ} {ls : List (List ℕ)} → Spells cs n ws vs ls → (k : ℕ) → k < length cs → SpeltSo (kind_at cs k) (get_or ws k []) (get_or vs k 0) (get_or ls k [])
spells_at spells_none k h = absurd (omega arith)
spells_at (spells_more {n = n} p t) zero h = record { count = n; says = p }
spells_at (spells_more p t) (suc k) h = spells_at t k (omega arith)

-- the words xs are those of ws from number k on, as far as ws goes
data Agree (ws : List (List ℕ)) : ℕ → List (List ℕ) → Type 0 where
  agree_none : {k : ℕ} → Agree ws k []
  agree_more : {k : ℕ} {x : List ℕ} {xs : List (List ℕ)} → (k < length ws → x ≡ get_or ws k []) → Agree ws (suc k) xs → Agree ws k (x ∷ xs)

agree_same : {ws : List (List ℕ)} {k : ℕ} {xs : List (List ℕ)} → Agree ws k xs → (j : ℕ) → k + j ≡ length ws → j ≤ length xs → take j xs ≡ drop k ws
agree_same {ws = ws} {k = k} a zero q h = let l : length ws ≤ k = omega arith in sym (drop_of_length-le ws l)
agree_same agree_none (suc j) q h = absurd (omega arith)
agree_same {ws = ws} {k = k} (agree_more {x = x} f t) (suc j) q h =
    let l : k < length ws = omega arith in
    let r = agree_same t j (omega arith) (omega arith) in
    (λ i. f l i ∷ r i) ∙ sym (drop-cons ws k [] l)

-- ---- an accepted line
module _ (s : List ℕ) (r : Bed) (ok : bed_check s ≡ Ok r) where
  abbrev ws : List (List ℕ)
  ws = words_of (line_of s)

  abbrev vs : List ℕ
  vs = firsts (line_values s)

  abbrev ls : List (List ℕ)
  ls = lists_in (take (word_count s 0) bed_columns) ws

  line : BedLine s vs ls r (bed_starts s r) (bed_sizes s r)
  line = line_of_lem s r ok

  -- ---- its words are standard words
  word_count_lem : length ws ≡ r.words
  unfolding word_count
  word_count_lem = sym line.words

  bytes_word : (k : ℕ) → bytes_of s (word_at s 0 k) ≡ get_or ws k []
  bytes_word k = word_bytes s 0 k

  standard_at : (k : ℕ) → k < length ws → Tidy (kind_at bed_columns k) (get_or ws k []) (get_or vs k 0) → standard_word (kind_at bed_columns k) (get_or ws k []) (get_or vs k 0) (get_or ls k []) ≡ get_or ws k []
  unfolding bed_columns
  standard_at k h t =
      let n : length (take (word_count s 0) bed_columns) ≡ word_count s 0 = rw length-take (omega (arith, most_words line.number)) in
      let l : k < word_count s 0 = omega (arith, word_count_lem, line.words) in
      let p = spells_at line.spelt k (omega arith) in
      let q : SpeltAs (kind_at bed_columns k) p.count (get_or ws k []) (get_or vs k 0) (get_or ls k []) = rw (← get_or-take (word_count s 0) bed_columns k Name l) p.says in
      tidy_word (kind_at bed_columns k) p.count (get_or ws k []) (get_or vs k 0) (get_or ls k []) q t

  -- all words are there
  all_there : column.block_count < r.words → r.words ≡ column.all
  all_there h = by_number line.number _ (λ a b. absurd (omega (arith, line.words))) (λ q. line.words ∙ q)

  -- all of its blocks are its rows
  rows_sizes : take r.blockCount (bed_sizes s r) ≡ bed_sizes s r
  rows_sizes = take_all r.blockCount (bed_sizes s r) (omega (arith, (accepted_rows s r ok).sizes))

  rows_starts : subtracted r.chromStart (take r.blockCount (bed_targets s r)) ≡ bed_starts s r
  unfolding bed_targets
  rows_starts =
      ap (subtracted r.chromStart) (take_all r.blockCount (bed_targets s r) (omega (arith, (accepted_rows s r ok).targets)))
      ∙ shifted_back r.chromStart (bed_starts s r)

  module _ (colour : column.item_rgb < r.words → r.itemRgb ≡ 0 → length (bytes_of s (word_at s 0 column.item_rgb)) ≡ 1) (sizes : r.words ≡ column.all → last_byte 0 (bytes_of s (word_at s 0 column.block_sizes)) ≡ 44) (starts : r.words ≡ column.all → last_byte 0 (bytes_of s (word_at s 0 column.block_starts)) ≡ 44) where
    there : (k : ℕ) → k < length ws → k < r.words
    there k h = omega (arith, word_count_lem)

    words_agree : Agree ws 0 (bed_words r (part_bytes s r.chrom) (part_bytes s r.name) (bed_targets s r) (bed_sizes s r))
    unfolding bed_words bed_columns
    words_agree =
        agree_more (λ h. name_word s column.chrom r.chrom line.chrom)
        (agree_more (λ h. ap digits line.chromStart ∙ standard_at column.chrom_start h tt)
        (agree_more (λ h. ap digits line.chromEnd ∙ standard_at column.chrom_end h tt)
        (agree_more (λ h. name_word s column.name r.name (line.name (there column.name h)))
        (agree_more (λ h. ap digits (line.score (there column.score h)) ∙ standard_at column.score h tt)
        (agree_more (λ h. ap (λ (v : ℕ). v ∷ []) (line.strand (there column.strand h)) ∙ standard_at column.strand h tt)
        (agree_more (λ h. ap digits (line.thickStart (there column.thick_start h)) ∙ standard_at column.thick_start h tt)
        (agree_more (λ h. ap digits (line.thickEnd (there column.thick_end h)) ∙ standard_at column.thick_end h tt)
        (agree_more (λ h. ap colour_text (line.itemRgb (there column.item_rgb h)) ∙ standard_at column.item_rgb h (λ e. ap length (sym (bytes_word column.item_rgb)) ∙ colour (there column.item_rgb h) (line.itemRgb (there column.item_rgb h) ∙ e)))
        (agree_more (λ h. ap digits (line.blockCount (there column.block_count h)) ∙ standard_at column.block_count h tt)
        (agree_more (λ h. ap list_text (rows_sizes ∙ line.listed_sizes (omega (arith, there column.block_sizes h))) ∙ standard_at column.block_sizes h (ap (last_byte 0) (sym (bytes_word column.block_sizes)) ∙ sizes (all_there (omega (arith, there column.block_sizes h)))))
        (agree_more (λ h. ap list_text (rows_starts ∙ line.listed_starts (omega (arith, there column.block_starts h))) ∙ standard_at column.block_starts h (ap (last_byte 0) (sym (bytes_word column.block_starts)) ∙ starts (all_there (omega (arith, there column.block_starts h)))))
        agree_none)))))))))))

    standard_words : take r.words (bed_words r (part_bytes s r.chrom) (part_bytes s r.name) (bed_targets s r) (bed_sizes s r)) ≡ ws
    unfolding bed_words
    standard_words = agree_same words_agree r.words (omega (arith, word_count_lem)) (omega (arith, most_words line.number, line.words))

-- A LINE IN STANDARD FORM AND A FEED ARE ITS RECORD'S STANDARD TEXT: black is one digit, and the lists end with a comma
pub standard_same : (s : List ℕ) (r : Bed) → bed_check s ≡ Ok r → Plain s
    → (8 < r.words → r.itemRgb ≡ 0 → length (bytes_of s (word_at s 0 column.item_rgb)) ≡ 1)
    → (r.words ≡ column.all → last_byte 0 (bytes_of s (word_at s 0 column.block_sizes)) ≡ 44) → (r.words ≡ column.all → last_byte 0 (bytes_of s (word_at s 0 column.block_starts)) ≡ 44)
    → bed_text r (part_bytes s r.chrom) (part_bytes s r.name) (bed_targets s r) (bed_sizes s r) ≡ line_of s ++ (10 ∷ [])
unfolding bed_text
standard_same s r ok p colour sizes starts = ap (λ (x : List (List ℕ)). joined 9 x ++ (10 ∷ [])) (standard_words s r ok colour sizes starts) ∙ ap (λ (x : List ℕ). x ++ (10 ∷ [])) (sym p.is)

-- ---- the tests of it
pub comma_last : (s : List ℕ) (w : Extent) (r : Bool) → w.start < w.end → w.end ≤ length s → r ≡ eqb (get_or s (w.end - 1) 0) 44 → r ≡ true → last_byte 0 (bytes_of s w) ≡ 44
unfolding bytes_of
comma_last s w r h l er t =
    let n : length (take (w.end - w.start) (drop w.start s)) ≡ w.end - w.start = rw (length-take, length-drop) (omega arith) in
    let q : w.start + (w.end - w.start - 1) ≡ w.end - 1 = omega arith in
    let g : get_or (take (w.end - w.start) (drop w.start s)) (length (take (w.end - w.start) (drop w.start s)) - 1) 0 ≡ get_or s (w.end - 1) 0 =
    rw (n, get_or-take (w.end - w.start) (drop w.start s) (w.end - w.start - 1) 0 (omega arith), get_or-drop w.start s (w.end - w.start - 1) 0, q) in
    sym (last_is (take (w.end - w.start) (drop w.start s)) (λ z. omega (arith, n))) ∙ g ∙ eqb-true (get_or s (w.end - 1) 0) 44 (sym er ∙ t)

-- words counted from after another
word_after : (s : List ℕ) (j k : ℕ) → word_at s (word_at s 0 j).end k ≡ word_at s 0 (suc (j + k))
unfolding word_at
word_after s j zero = rw (add-zero j)
word_after s j (suc k) =
    let q : j + suc k ≡ suc (j + k) = omega arith in
    rw q (ap (λ (w : Extent). next_word s w.end) (word_after s j k))

-- where the name of an accepted line ends
module _ (s : List ℕ) (r : Bed) (ok : bed_check s ≡ Ok r) (h : column.item_rgb < r.words) where
  name_ends : r.name.start + r.name.length ≡ (word_at s 0 column.name).end
  unfolding end_of
  name_ends =
      let e = (line s r ok).name (omega arith) in
      let m : (word_at s 0 column.name).start ≤ (word_at s 0 column.name).end = omega (arith, word_ends s 0 column.name) in
      rw e (omega arith)

  pub name_fits : r.name.start + r.name.length ≤ text_limit
  name_fits = omega (arith, name_ends, (word_in s 0 column.name (omega arith)).1, (line s r ok).short)

  pub rgb_word : (p : ℕ) (w : Extent) → p ≡ r.name.start + r.name.length → w ≡ word_at s p (column.item_rgb - column.name - 1) → w ≡ word_at s 0 column.item_rgb
  rgb_word p w e q = q ∙ ap (λ (i : ℕ). word_at s i (column.item_rgb - column.name - 1)) (e ∙ name_ends) ∙ word_after s column.name (column.item_rgb - column.name - 1)

module _ (s : List ℕ) (r : Bed) (ok : bed_check s ≡ Ok r) (h : column.item_rgb < r.words) (p : ℕ) (ep : p ≡ r.name.start + r.name.length) (rgb : Extent) (e4 : rgb ≡ word_at s p (column.item_rgb - column.name - 1)) (black : Bool) (eb : black ≡ (not (eqb r.itemRgb 0) || eqb (rgb.end - rgb.start) 1)) where
  e8 : rgb ≡ word_at s 0 column.item_rgb
  e8 = rgb_word s r ok h p rgb ep e4

  one_digit : black ≡ true → r.itemRgb ≡ 0 → length (bytes_of s (word_at s 0 column.item_rgb)) ≡ 1
  one_digit t z =
      let q : eqb (rgb.end - rgb.start) 1 ≡ true = rw (eq-eqb r.itemRgb 0 z) at (sym eb ∙ t) in
      let n : rgb.end - rgb.start ≡ 1 = eqb-true (rgb.end - rgb.start) 1 q in
      word_length s column.item_rgb ∙ rw e8 at n

  pub tidy_nine : r.words < column.all → black ≡ true → Tidied s r
  tidy_nine l t = record { black = λ l z. one_digit t z; sizes = λ q. absurd (omega arith); starts = λ q. absurd (omega arith) }

  pub tidy_twelve : (count sizes starts : Extent) → count ≡ next_word s rgb.end → sizes ≡ next_word s count.end → starts ≡ next_word s sizes.end → (a b : Bool) → (a ≡ true → last_byte 0 (bytes_of s sizes) ≡ 44)
      → (b ≡ true → last_byte 0 (bytes_of s starts) ≡ 44) → (black && (a && b)) ≡ true → Tidied s r
  tidy_twelve count sizes starts e9 e10 e11 a b fa fb t =
      let p = both black (a && b) t in
      let q = both a b p.1 in
      let w9 = word_next s 0 column.item_rgb rgb count e8 e9 in
      let w10 = word_next s 0 column.block_count count sizes w9 e10 in
      let w11 = word_next s 0 column.block_sizes sizes starts w10 e11 in
      record { black = λ l z. one_digit p.0 z; sizes = λ h. rw w10 at (fa q.0); starts = λ h. rw w11 at (fb q.1) }

pub accepted_as : (s : List ℕ) (x : Result Bed Refusal) (r : Bed) → x ≡ bed_check s → x ≡ Ok r → bed_check s ≡ Ok r
accepted_as s x r ex e = sym ex ∙ e

pub standard_of : (s : List ℕ) (x : Result Bed Refusal) (r : Bed) (a b : Bool) → x ≡ bed_check s → x ≡ Ok r → (a ≡ true → Tidied s r) → (b ≡ true → Plain s) → (a && b) ≡ true → Standard s
standard_of s x r a b ex e fa fb t =
    let p = both a b t in
    let ok : bed_check s ≡ Ok r = sym ex ∙ e in
    let d = fa p.0 in
    record { bed = r; accepted = ok; same = standard_same s r ok (fb p.1) d.black d.sizes d.starts }
