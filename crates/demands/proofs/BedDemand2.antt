-- Demand 2 holds of BED. Assumes nothing.
use mathlib.Core.Path.{◌≡◌, refl, sym, ◌∙◌}
use mathlib.Core.Bool.{true}
use mathlib.Core.List.{List, []}
use Prim.Native.Nat.{ℕ, ◌≤◌}
use native.Mathlib.Omega.{arith}
use lib.ListN.{length, get_or, get_or-eq_default}
use Rattle.std.specs.Prelude.{Ok}
use Rattle.ledger.specs.declared.Row.{Row}
use Rattle.ledger.specs.Limits.{text_limit}
use Rattle.text.specs.declared.Class.TheVariants.{Graphic}
use Rattle.text.specs.Words.{word_count}
use Rattle.text.proofs.Laws.{either}
use Rattle.text.specs.Pieces.{line_of, words_of}
use Rattle.text.specs.Parts.{part_in, part_bytes}
use Rattle.text.proofs.TextLaws.{All}
use Rattle.writing.specs.Answers.{room_answer}
use Rattle.blocks.specs.Blocks.{shifted, sums_from}
use Rattle.blocks.specs.Rows.{table_of, targets_of, queries_of, sizes_of}
use Rattle.bed.specs.declared.Bed.{Bed}
use Rattle.bed.specs.Records.{bed_targets, bed_queries, bed_sizes, bed_rows}
use Rattle.bed.specs.Read.{bed_read, bed_check}
use Rattle.bed.specs.Rules.{BedLine, BedRules, named, placed}
use Rattle.bed.specs.Tests.{strand_fits, fields_fit, spans_fit, rows_fit, bed_valid}
use Rattle.bed.specs.Write.{names_show, write_check, bed_text, bed_write, record_check}
use Rattle.bed_laws.proofs.ExactLaws.{line_sizes, line_starts, line_is}
use Rattle.bed.proofs.LineLaws.{line_of_lem}
use Rattle.bed_laws.proofs.RuleLaws.{rules_of, rules_is}
use Rattle.bed_laws.proofs.WritableLaws.{valid_writes, chrom_shows, name_shows}
use Rattle.bed_laws.proofs.BackLaws.{back_chrom, back_name}
use Rattle.demands.specs.Formats.{Names}
use Rattle.demands.specs.Demand2.{Demand2}
use Rattle.demands.specs.Bed.{bed_names, bed_handed, bed_name_words, BedSpells, BedValid, SameBed, bed}
use Rattle.rows.proofs.ReaderLaws.{read_of}
use Rattle.table_bed.proofs.RowLaws.{bed_reads}
use Rattle.table_bed.specs.Rows.{RowsRead, rows_filled}
use Rattle.table_bed.proofs.TableLaws.{left_valid, back_rows}
use Rattle.columns.proofs.PartLaws.{name_word, name_handed, handed_in}
use Rattle.demands.proofs.RowLaws.{holds_if}
use Rattle.demands.proofs.FormatLaws.{Shown, demand2_of}
use Rattle.demands.proofs.FormatLaws as demands
use Rattle.demands.proofs.LengthLaws.{bed_short}

-- the test of a record sees only the lengths of its names
valid_named : (r : Bed) (ns : Names) (ts qs zs : List ℕ) → length ns.first ≡ r.chrom.length → length ns.second ≡ r.name.length → bed_valid r ts qs zs ≡ true → bed_valid (named r ns.first ns.second) ts qs zs ≡ true
unfolding bed_valid strand_fits fields_fit spans_fit rows_fit
valid_named r ns ts qs zs e f h = rw (e, f) h

-- a valid record passes the writer's checks
passes : (r : Bed) (ns : Names) (ts qs zs : List ℕ) → BedRules (named r ns.first ns.second) ts qs zs → All Graphic ns.first → All Graphic ns.second → write_check r ns.first ns.second ts qs zs ≡ Ok tt
unfolding write_check names_show strand_fits fields_fit spans_fit rows_fit
passes r ns ts qs zs k c d = let q = named r ns.first ns.second in valid_writes q ns.first ns.second ts qs zs (rules_is q ts qs zs k) refl refl c d

-- ---- an accepted line: its names, and its rows
module _ (s : List ℕ) (r : Bed) (ok : bed_check s ≡ Ok r) where
  names_valid : (ts qs zs : List ℕ) → bed_valid r ts qs zs ≡ true → bed_valid (named r (bed_names s r).first (bed_names s r).second) ts qs zs ≡ true
  names_valid ts qs zs v = valid_named r (bed_names s r) ts qs zs (chrom_shows s r ok).1 (name_shows s r ok).1 v

-- and the table that it left
left : (s : List ℕ) (before after : List Row) (r : Bed) → RowsRead s before after (Ok r) → BedValid r (bed_names s r) after
unfolding record_check
left s before after r h =
    let ok = (read_of (bed_reads s) (length before) r (sym h.is)).0 in
    record {
      rules = rules_of (named r (bed_names s r).first (bed_names s r).second) _ _ _ (names_valid s r ok _ _ _ (holds_if _ (left_valid s r before after h)));
      chrom_shows = (chrom_shows s r ok).0;
      name_shows = (name_shows s r ok).0;
    }

-- ---- a valid record: written, and read back
module _ (r : Bed) (ns : Names) (table : List Row) (ok : BedValid r ns table) where
  abbrev ts : List ℕ
  ts = targets_of table

  abbrev qs : List ℕ
  qs = queries_of table

  abbrev zs : List ℕ
  zs = sizes_of table

  abbrev text : List ℕ
  text = bed_text r ns.first ns.second ts zs

  may : write_check r ns.first ns.second ts qs zs ≡ Ok tt
  may = passes r ns ts qs zs ok.rules ok.chrom_shows ok.name_shows

  pub short : length text ≤ text_limit
  short = bed_short r ns.first ns.second ts qs zs ok.rules

  pub writes_as : (room : ℕ) → bed_write r ns.first ns.second ts qs zs room ≡ room_answer (length text) room
  unfolding bed_write
  writes_as room = rw may

  same : SameBed r (placed text r)
  unfolding placed
  same = record { words = refl; chromStart = refl; chromEnd = refl; score = refl; strand = refl; thickStart = refl; thickEnd = refl; itemRgb = refl; blockCount = refl }

  same_names : bed_names text (placed text r) ≡ ns
  same_names =
      let a = back_chrom r ns.first ns.second ts qs zs may short in
      let b = back_name r ns.first ns.second ts qs zs may short in
      λ i. record { first = a i; second = b i }

-- what a text spells is what its checker accepts, with the rows of its block columns
pub spelt_check : (s : List ℕ) (r : Bed) (rows : List Row) → BedSpells s r rows → bed_check s ≡ Ok r
spelt_check s r rows p = line_is s r _ _ _ _ p.line

pub spelt_rows : (s : List ℕ) (r : Bed) (rows : List Row) → BedSpells s r rows → rows ≡ bed_rows s r
unfolding bed_targets bed_queries
spelt_rows s r rows p =
    let a = line_starts s r _ _ _ _ p.line in
    let b = line_sizes s r _ _ _ _ p.line in
    p.rows_said ∙ (λ i. table_of (shifted r.chromStart (a i)) (sums_from 0 (b i)) (b i))

pub spelt_of : (s : List ℕ) (r : Bed) → bed_check s ≡ Ok r → BedSpells s r (bed_rows s r)
unfolding bed_targets bed_queries
spelt_of s r ok = record { values = _; lists = _; starts = _; sizes = _; line = line_of_lem s r ok; rows_said = refl }

word_count_lem : (s : List ℕ) → word_count s 0 ≡ length (words_of (line_of s))
unfolding word_count
word_count_lem s = refl

-- its names are its words; one that is left out is none
name_said : (s vs : List ℕ) (ls : List (List ℕ)) (r : Bed) (starts sizes : List ℕ) → BedLine s vs ls r starts sizes → (part_bytes s r.name ≡ get_or (words_of (line_of s)) 3 []) × (part_bytes s (part_in s r.name) ≡ part_bytes s r.name)
unfolding part_bytes
name_said s vs ls r starts sizes line = either r.words 3 _
    (λ h.
    let n : length (words_of (line_of s)) ≤ 3 = omega (arith, word_count_lem s, line.words) in
    rw (line.no_name h) (sym (get_or-eq_default (words_of (line_of s)) [] {n = 3} n), handed_in s (record { start = length s; length = 0 }) (omega arith) (omega arith)))
    (λ h. (name_word s 3 r.name (line.name h), name_handed s 3 r.name (line.name h)))

pub names_said : (s : List ℕ) (r : Bed) (rows : List Row) → BedSpells s r rows → (bed_names s r ≡ bed_name_words s) × (bed_handed s r ≡ bed_names s r)
names_said s r rows p =
    let a = name_word s 0 r.chrom p.line.chrom in
    let b = name_handed s 0 r.chrom p.line.chrom in
    let c = name_said s _ _ r _ _ p.line in
    let d = c.0 in
    let e = c.1 in
    (λ i. record { first = a i; second = d i }, λ i. record { first = b i; second = e i })

-- WHAT BED SHOWS
pub bed_shown : Shown bed
unfolding bed record_check
bed_shown = record {
  filled = rows_filled;
  check_text = bed_check;
  read = bed_read;
  targets = bed_targets;
  queries = bed_queries;
  sizes = bed_sizes;
  reads = bed_reads;
  answered = λ s before after x h. h.is;
  stored = λ s before after r h. h.rows;
  promised = λ s before after r e h. record { is = e; rows = h };
  spelt_check = spelt_check;
  spelt_rows = spelt_rows;
  spelt_of = spelt_of;
  one = λ r r' e. cc;
  names_said = names_said;
  left_valid = left;
  valid = λ r table. bed_valid r (targets_of table) (queries_of table) (sizes_of table);
  checks = λ r table. refl;
  rules_of = λ r table h. rules_of r _ _ _ h;
  rules_is = λ r table h. rules_is r _ _ _ h;
  short = short;
  writes = λ r ns table before after x ok w. (w.is ∙ writes_as r ns table ok (length before), w.left);
  reads_back = λ r ns table before after x ok h room.
      let k = back_rows r ns.first ns.second table (may r ns table ok) (short r ns table ok) before after x room h in
      record { record' = placed (text r ns table ok) r; is_read = k.0; same_numbers = same r ns table ok; same_names = same_names r ns table ok; same_rows = k.1 };
}

pub bed_demand2 : Demand2 bed
bed_demand2 = demand2_of bed bed_shown

-- the record that a text spells is valid, with just the rows that it spells
pub spelt_valid : (s : List ℕ) (r : Bed) (rows : List Row) → BedSpells s r rows → BedValid r (bed_names s r) rows
unfolding bed
spelt_valid = demands.spelt_valid bed bed_shown
