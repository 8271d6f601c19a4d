-- An accepted BED line's record may be written, and its names are handed back whole. Assumes nothing.
use mathlib.Core.Path.{◌≡◌, refl}
use mathlib.Core.Bool.{true}
use mathlib.Core.List.{List}
use Prim.Native.Nat.{ℕ}
use native.Mathlib.Omega.{arith}
use lib.ListN.{length, take}
use Rattle.std.specs.Prelude.{Ok}
use Rattle.text.specs.declared.Class.TheVariants.{Graphic}
use Rattle.text.specs.Scan.{run}
use Rattle.text.specs.Pieces.{line_of, words_of}
use Rattle.text.specs.Words.{word_count}
use Rattle.text.specs.Parts.{part_in, part_bytes}
use Rattle.text.proofs.Laws.{either}
use Rattle.text.proofs.TextLaws.{All, both}
use Rattle.columns.proofs.Meant.{lists_in}
use Rattle.columns.proofs.WordLaws.{graphic_all}
use Rattle.columns.proofs.PartLaws.{part_shows, handed_in, name_handed}
use Rattle.blocks.specs.Blocks.{count_fits, rows_of, row_numbers_fit}
use Rattle.bed.specs.declared.Bed.{Bed}
use Rattle.bed.specs.Columns as column
use Rattle.bed.specs.Table.{bed_columns}
use Rattle.bed.specs.Records.{bed_sizes, bed_starts, bed_targets, bed_queries}
use Rattle.bed.specs.Read.{bed_check}
use Rattle.bed.specs.Rules.{BedLine}
use Rattle.bed.specs.Tests.{names_fit, strand_fits, fields_fit, spans_fit, rows_fit, bed_valid}
use Rattle.bed.specs.Write.{names_show, write_check}
use Rattle.bed.proofs.LineLaws.{line_of_lem}
use Rattle.bed.proofs.RowLaws.{vs}
use Rattle.bed_laws.proofs.ValidLaws.{accepted_valid}

-- ---- A VALID RECORD PASSES THE WRITER'S CHECKS, with names of its lengths that show
pub valid_writes : (r : Bed) (chrom name ts qs zs : List ℕ) → bed_valid r ts qs zs ≡ true → length chrom ≡ r.chrom.length → length name ≡ r.name.length → All Graphic chrom → All Graphic name → write_check r chrom name ts qs zs ≡ Ok tt
unfolding write_check names_show bed_valid
valid_writes r chrom name ts qs zs v c d k l =
    let n = r.blockCount in
    let count = both (count_fits n (rows_of ts qs zs)) _ v in
    let names = both (names_fit r.words r.chrom.length r.name.length) _ count.1 in
    let strand = both (strand_fits r) _ names.1 in
    let fields = both (fields_fit r) _ strand.1 in
    let numbers = both (row_numbers_fit (take n ts) (take n qs) (take n zs)) _ fields.1 in
    let spans = both (spans_fit r) (rows_fit r (take n ts) (take n qs) (take n zs)) numbers.1 in
    rw (count.0, graphic_all chrom k, graphic_all name l, c, d, names.0, strand.0, fields.0, numbers.0, spans.0, spans.1)

-- ---- an accepted line
module _ (s : List ℕ) (r : Bed) (ok : bed_check s ≡ Ok r) where
  abbrev line : BedLine s (vs s r ok) (lists_in (take (word_count s 0) bed_columns) (words_of (line_of s))) r (bed_starts s r) (bed_sizes s r)
  line = line_of_lem s r ok

  -- its names show, and have the lengths that the record says
  none_shows : (All Graphic (part_bytes s (record { start = length s; length = 0 }))) × (length (part_bytes s (record { start = length s; length = 0 })) ≡ 0)
  unfolding part_bytes run
  none_shows = (refl, refl)

  pub chrom_shows : (All Graphic (part_bytes s r.chrom)) × (length (part_bytes s r.chrom) ≡ r.chrom.length)
  chrom_shows = rw line.chrom (part_shows s line.allowed column.chrom)

  pub name_shows : (All Graphic (part_bytes s r.name)) × (length (part_bytes s r.name) ≡ r.name.length)
  name_shows = either r.words column.name _ (λ h. rw (line.no_name h) none_shows) (λ h. rw (line.name h) (part_shows s line.allowed column.name))

  -- ITS RECORD MAY BE WRITTEN
  pub accepted_writable : write_check r (part_bytes s r.chrom) (part_bytes s r.name) (bed_targets s r) (bed_queries s r) (bed_sizes s r) ≡ Ok tt
  accepted_writable = valid_writes r _ _ _ _ _ (accepted_valid s r ok) chrom_shows.1 name_shows.1 chrom_shows.0 name_shows.0

  -- its names are handed back whole
  pub chrom_handed : part_bytes s (part_in s r.chrom) ≡ part_bytes s r.chrom
  chrom_handed = name_handed s column.chrom r.chrom line.chrom

  pub name_back : part_bytes s (part_in s r.name) ≡ part_bytes s r.name
  name_back = either r.words column.name _ (λ h. rw (line.no_name h) (handed_in s (record { start = length s; length = 0 }) (omega arith) (omega arith))) (λ h. name_handed s column.name r.name (line.name h))
