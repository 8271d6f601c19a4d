-- A BED record that may be written: the rules that it obeys, and that each of its first words is there, shows, and spells its column. Assumes nothing.
use mathlib.Core.Path.{◌≡◌, refl, ◌∙◌}
use mathlib.Core.Bool.{true, ◌&&◌}
use mathlib.Core.List.{List, [], ◌∷◌}
use Prim.Native.Nat.{ℕ, zero, suc, ◌+◌, ◌-◌, ◌≤◌, ◌<◌, zero-le}
use native.Mathlib.Omega.{arith}
use lib.ListN.{length, take}
use lib.Seq.{length-take-le}
use lib.Dec.{eqb}
use Rattle.std.specs.Prelude.{Ok}
use Rattle.ledger.specs.declared.Strand.{Strand}
use Rattle.ledger.specs.declared.Strand.TheVariants.{Plus, Minus, Dot}
use Rattle.ledger.specs.Limits.{largest_position}
use Rattle.ledger.specs.Strands.{strand_letter}
use Rattle.text.specs.declared.Class.TheVariants.{Graphic}
use Rattle.text.proofs.StageLaws.{require_holds}
use Rattle.text.proofs.TextLaws.{All, both}
use Rattle.text.proofs.PieceLaws.{Worded, worded_none, worded_more}
use Rattle.numbers.specs.Ranges.{Between, between_none, between_more}
use Rattle.kinds.specs.declared.Range.TheVariants.{Coordinate, Size, BedScore}
use Rattle.kinds.specs.declared.Kind.{Kind}
use Rattle.kinds.specs.declared.Kind.TheVariants.{Number, Count, Stranded, Colour}
use Rattle.kinds.specs.Kinds.{count_after}
use Rattle.kinds.proofs.BackLaws.{Written, written_lem}
use Rattle.columns.specs.Names.{all_graphic}
use Rattle.columns.proofs.Meant.{Meant, meant_none, meant_more}
use Rattle.columns.proofs.WordLaws.{all_graphic_lem, and_i, name_written, list_written}
use Rattle.blocks.specs.Blocks.{blocks_fill, are_sums, all_between, subtracted, count_fits, rows_of, row_numbers_fit}
use Rattle.blocks.proofs.RuleLaws.{between_of, subtracted_length}
use Rattle.bed.specs.declared.Bed.{Bed}
use Rattle.bed.specs.Columns as column
use Rattle.bed.specs.Table.{bed_columns}
use Rattle.bed.specs.Rules.{BedRules, named}
use Rattle.bed.specs.Tests.{if_there, names_fit, strand_fits, fields_fit, spans_fit, rows_fit, bed_valid}
use Rattle.bed.specs.Write.{names_show, write_check, bed_words}
use Rattle.bed_laws.proofs.RuleLaws.{rules_of}

-- what the writer's checks show of a record, its names and its rows
pub record MayWrite (r : Bed) (chrom name ts qs zs : List ℕ) : Type 0 where
  pub rules : BedRules (named r chrom name) ts qs zs
  pub chrom_shows : All Graphic chrom
  pub name_shows : All Graphic name
  pub targets : all_between 0 largest_position (take r.blockCount ts) ≡ true
  pub sizes : all_between 1 largest_position (take r.blockCount zs) ≡ true
  pub fill : blocks_fill r.chromStart r.chromEnd (take r.blockCount ts) (take r.blockCount zs) ≡ true
  pub sums : are_sums 0 (take r.blockCount qs) (take r.blockCount zs) ≡ true

-- THE WRITER'S CHECKS, ONE BY ONE
pub may_write : (r : Bed) (chrom name ts qs zs : List ℕ) → write_check r chrom name ts qs zs ≡ Ok tt → MayWrite r chrom name ts qs zs
unfolding write_check names_show bed_valid strand_fits fields_fit spans_fit rows_fit row_numbers_fit
may_write r chrom name ts qs zs e =
    let n = r.blockCount in
    let count = require_holds (count_fits n (rows_of ts qs zs)) _ _ e in
    let words = require_holds (names_show r chrom name && strand_fits r) _ _ count.1 in
    let numbers = require_holds (fields_fit r && row_numbers_fit (take n ts) (take n qs) (take n zs)) _ _ words.1 in
    let spans = require_holds (spans_fit r) _ _ numbers.1 in
    let rows = require_holds (rows_fit r (take n ts) (take n qs) (take n zs)) _ _ spans.1 in
    let names = both (names_show r chrom name) (strand_fits r) words.0 in
    let lengths = both (names_fit r.words (length chrom) (length name)) (all_graphic chrom && all_graphic name) names.0 in
    let shown = both (all_graphic chrom) (all_graphic name) lengths.1 in
    let fields = both (fields_fit r) (row_numbers_fit (take n ts) (take n qs) (take n zs)) numbers.0 in
    let starts = both (all_between 0 largest_position (take n ts)) (all_between 0 largest_position (take n qs) && all_between 1 largest_position (take n zs)) fields.1 in
    let others = both (all_between 0 largest_position (take n qs)) (all_between 1 largest_position (take n zs)) starts.1 in
    let filled = both (if_there r.words column.block_count true (eqb n 1)) (blocks_fill r.chromStart r.chromEnd (take n ts) (take n zs) && are_sums 0 (take n qs) (take n zs)) rows.0 in
    let summed = both (blocks_fill r.chromStart r.chromEnd (take n ts) (take n zs)) (are_sums 0 (take n qs) (take n zs)) filled.1 in
    let valid : bed_valid (named r chrom name) ts qs zs ≡ true = and_i _ _ count.0 (and_i _ _ lengths.0 (and_i _ _ names.1 (and_i _ _ fields.0 (and_i _ _ fields.1 (and_i _ _ spans.0 rows.0))))) in
    record {
      rules = rules_of (named r chrom name) ts qs zs valid;
      chrom_shows = all_graphic_lem chrom shown.0;
      name_shows = all_graphic_lem name shown.1;
      targets = starts.0;
      sizes = others.1;
      fill = summed.0;
      sums = summed.1;
    }

strand_written : (n : ℕ) (t : Strand) → Written (Stranded true) n (strand_letter t) (strand_letter t ∷ []) []
strand_written n Plus = written_lem (Stranded true) [] [] n 0 (strand_letter Plus) 0 refl
strand_written n Minus = written_lem (Stranded true) [] [] n 0 (strand_letter Minus) 0 refl
strand_written n Dot = written_lem (Stranded true) [] [] n 0 (strand_letter Dot) 0 refl

pub subtracted_between : (a most : ℕ) (xs : List ℕ) → Between 0 most xs → Between 0 most (subtracted a xs)
unfolding subtracted
subtracted_between a most [] between_none = between_none
subtracted_between a most (x ∷ xs) (between_more l h t) = let k : x - a ≤ most = omega arith in between_more zero-le k (subtracted_between a most xs t)

-- the words ws of the columns cs from number k on: those below m are there, show, and spell the values vs
data Row (m : ℕ) : ℕ → List Kind → ℕ → List (List ℕ) → List ℕ → Type 0 where
  row_none : {k n : ℕ} → Row m k [] n [] []
  row_more : {k n v : ℕ} {c : Kind} {cs : List Kind} {w held : List ℕ} {ws : List (List ℕ)} {vs : List ℕ} → (k < m → Written c n v w held) → Row m (suc k) cs (count_after c v n) ws vs → Row m k (c ∷ cs) n (w ∷ ws) (v ∷ vs)

-- of the first m columns, the first words spell the first values
row_spells : {m k n : ℕ} {cs : List Kind} {ws : List (List ℕ)} {vs : List ℕ} → Row m k cs n ws vs → (j : ℕ) → k + j ≡ m → Meant (take j cs) n (take j ws) (take j vs)
row_spells row_none zero q = meant_none
row_spells row_none (suc j) q = meant_none
row_spells (row_more f t) zero q = meant_none
row_spells (row_more f t) (suc j) q = meant_more (f (omega arith)).back (row_spells t j (omega arith))

row_worded : {m k n : ℕ} {cs : List Kind} {ws : List (List ℕ)} {vs : List ℕ} → Row m k cs n ws vs → (j : ℕ) → k + j ≡ m → Worded (take j ws)
row_worded row_none zero q = worded_none
row_worded row_none (suc j) q = worded_none
row_worded (row_more f t) zero q = worded_none
row_worded (row_more {w = w} f t) (suc j) q = let g = f (omega arith) in worded_more w g.some g.shows (row_worded t j (omega arith))

-- the values of a record's twelve columns; a name means its length, and a list too
abbrev pub word_values : Bed → List ℕ → List ℕ → List ℕ
word_values r chrom name =
    length chrom ∷ r.chromStart ∷ r.chromEnd ∷ length name ∷ r.score ∷ strand_letter r.strand ∷ r.thickStart ∷ r.thickEnd ∷ r.itemRgb ∷ r.blockCount ∷ r.blockCount ∷ r.blockCount ∷ []

-- THE WORDS OF A RECORD SPELL IT
module _ (r : Bed) (chrom name ts qs zs : List ℕ) (ok : MayWrite r chrom name ts qs zs) where
  pub sizes_between : Between 1 largest_position (take r.blockCount zs)
  sizes_between = between_of 1 largest_position (take r.blockCount zs) ok.sizes

  pub starts_between : Between 0 largest_position (subtracted r.chromStart (take r.blockCount ts))
  starts_between = subtracted_between r.chromStart largest_position (take r.blockCount ts) (between_of 0 largest_position (take r.blockCount ts) ok.targets)

  row : Row r.words 0 bed_columns 0 (bed_words r chrom name ts zs) (word_values r chrom name)
  unfolding bed_columns bed_words
  row =
      let k = ok.rules in
      let n = r.blockCount in
      let sizes = length-take-le n zs k.rows.size_rows in
      let starts = subtracted_length r.chromStart (take n ts) ∙ length-take-le n ts k.rows.target_rows in
      row_more (λ h. name_written 0 chrom k.chrom_some k.chrom_short ok.chrom_shows)
      (row_more (λ h. written_lem (Number Coordinate) [] [] 0 0 r.chromStart 0 (zero-le, k.start_range))
      (row_more (λ h. written_lem (Number Coordinate) [] [] 0 0 r.chromEnd 0 (zero-le, k.end_range))
      (row_more (λ h. name_written 0 name (k.name_some h) (k.name_short h) ok.name_shows)
      (row_more (λ h. written_lem (Number BedScore) [] [] 0 0 r.score 0 (zero-le, k.score_range h))
      (row_more (λ h. strand_written 0 r.strand)
      (row_more (λ h. written_lem (Number Coordinate) [] [] 0 0 r.thickStart 0 (zero-le, k.thick_start_range h))
      (row_more (λ h. written_lem (Number Coordinate) [] [] 0 0 r.thickEnd 0 (zero-le, k.thick_end_range h))
      (row_more (λ h. written_lem Colour [] [] 0 0 r.itemRgb 0 (k.colour_range h))
      (row_more (λ h. written_lem Count [] [] 0 0 n 0 (k.rows.some_block, k.rows.few_blocks))
      (row_more (λ h. list_written Size n (take n zs) k.rows.some_block sizes sizes_between)
      (row_more (λ h. list_written Coordinate n (subtracted r.chromStart (take n ts)) k.rows.some_block starts starts_between)
      row_none)))))))))))

  pub words_spell : Meant (take r.words bed_columns) 0 (take r.words (bed_words r chrom name ts zs)) (take r.words (word_values r chrom name))
  words_spell = row_spells row r.words (omega arith)

  pub words_worded : Worded (take r.words (bed_words r chrom name ts zs))
  words_worded = row_worded row r.words (omega arith)
