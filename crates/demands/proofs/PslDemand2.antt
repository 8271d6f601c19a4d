-- Demand 2 holds of PSL. Assumes nothing.
use mathlib.Core.Path.{◌≡◌, refl, sym, ◌∙◌}
use mathlib.Core.Bool.{true, ◌&&◌}
use mathlib.Core.List.{List}
use Prim.Native.Nat.{ℕ, ◌≤◌}
use lib.ListN.{length, take}
use Rattle.std.specs.Prelude.{Ok}
use Rattle.ledger.specs.declared.Row.{Row}
use Rattle.ledger.specs.Limits.{text_limit}
use Rattle.text.specs.declared.Class.TheVariants.{Graphic}
use Rattle.columns.specs.Columns.{values_from}
use Rattle.columns.specs.Spells.{firsts}
use Rattle.text.specs.Pieces.{line_of, words_of}
use Rattle.text.specs.Parts.{part_bytes}
use Rattle.text.proofs.TextLaws.{All, both}
use Rattle.writing.specs.Answers.{room_answer}
use Rattle.blocks.specs.Blocks.{count_fits, rows_of, row_numbers_fit}
use Rattle.blocks.specs.Rows.{table_of, targets_of, queries_of, sizes_of}
use Rattle.psl.specs.declared.Psl.{Psl}
use Rattle.psl.specs.Records.{psl_targets, psl_queries, psl_sizes, psl_rows}
use Rattle.psl.specs.Read.{psl_read, psl_check}
use Rattle.psl.specs.Table.{psl_columns}
use Rattle.psl.specs.Rules.{PslLine, PslRules, named, placed}
use Rattle.psl.specs.Rows.{rows_fit, counts_fit}
use Rattle.ledger.specs.Strands.{is_told}
use Rattle.psl.specs.Tests.{fields_fit, spans_fit, psl_valid}
use Rattle.psl.specs.Write.{words_show, write_check, psl_text, psl_write, record_check}
use Rattle.psl_laws.proofs.LineLaws.{line_targets, line_queries, line_sizes, line_of_lem, line_is}
use Rattle.psl_laws.proofs.RuleLaws.{rules_of, rules_is}
use Rattle.psl_laws.proofs.BackLaws.{back_query, back_target}
use Rattle.demands.specs.Formats.{Names}
use Rattle.demands.specs.Demand2.{Demand2}
use Rattle.demands.specs.Psl.{psl_names, psl_handed, psl_name_words, PslSpells, PslValid, SamePsl, psl}
use Rattle.rows.proofs.ReaderLaws.{read_of}
use Rattle.table_psl.proofs.RowLaws.{psl_reads}
use Rattle.table_psl.specs.Rows.{RowsRead, rows_filled}
use Rattle.table_psl.proofs.TableLaws.{left_valid, back_rows}
use Rattle.columns.proofs.Meant.{lists_in}
use Rattle.columns.proofs.PartLaws.{part_shows, name_word, name_handed}
use Rattle.demands.proofs.RowLaws.{holds_if}
use Rattle.demands.proofs.FormatLaws.{Shown, demand2_of}
use Rattle.demands.proofs.FormatLaws as demands
use Rattle.demands.proofs.LengthLaws.{psl_short}
use Rattle.columns.specs.Names.{length_fits}
use Rattle.columns.proofs.WordLaws.{graphic_all}

-- where the blocks start and end does not depend on the names
rows_named : (r : Psl) (ns : Names) (ts qs zs : List ℕ) → rows_fit (named r ns.first ns.second) ts qs zs ≡ rows_fit r ts qs zs
unfolding rows_fit
rows_named r ns ts qs zs = refl

-- the test of a record sees only the lengths of its names
valid_named : (r : Psl) (ns : Names) (ts qs zs : List ℕ) → length ns.first ≡ r.query.name.length → length ns.second ≡ r.target.name.length → psl_valid r ts qs zs ≡ true → psl_valid (named r ns.first ns.second) ts qs zs ≡ true
unfolding psl_valid fields_fit spans_fit
valid_named r ns ts qs zs e f h = rw (rows_named r ns (take r.blockCount ts) (take r.blockCount qs) (take r.blockCount zs), e, f) h

-- a valid record passes the writer's checks
passes : (r : Psl) (ns : Names) (ts qs zs : List ℕ) → PslRules (named r ns.first ns.second) ts qs zs → All Graphic ns.first → All Graphic ns.second → write_check r ns.first ns.second ts qs zs ≡ Ok tt
unfolding write_check words_show psl_valid fields_fit spans_fit
passes r ns ts qs zs k c d =
    let n = r.blockCount in
    let v = rules_is (named r ns.first ns.second) ts qs zs k in
    let count = both (count_fits n (rows_of ts qs zs)) _ v in
    let names = both (length_fits (length ns.first) && (length_fits (length ns.second) && is_told r.strand)) _ count.1 in
    let fields = both (fields_fit (named r ns.first ns.second)) _ names.1 in
    let numbers = both (row_numbers_fit (take n ts) (take n qs) (take n zs)) _ fields.1 in
    let spans = both (spans_fit (named r ns.first ns.second)) _ numbers.1 in
    let rows = both (rows_fit (named r ns.first ns.second) (take n ts) (take n qs) (take n zs)) (counts_fit r.counts (take n ts) (take n qs) (take n zs)) spans.1 in
    rw (count.0, names.0, graphic_all ns.first c, graphic_all ns.second d, fields.0, numbers.0, spans.0, ← rows_named r ns (take n ts) (take n qs) (take n zs), rows.0, rows.1)

-- ---- an accepted line: its names, and its rows
module _ (s : List ℕ) (r : Psl) (ok : psl_check s ≡ Ok r) where
  said : PslLine s (firsts (values_from psl_columns 0 s 0)) (lists_in psl_columns (words_of (line_of s))) r (psl_targets s) (psl_queries s) (psl_sizes s)
  said = line_of_lem s r ok

  query_shows : (All Graphic (part_bytes s r.query.name)) × (length (part_bytes s r.query.name) ≡ r.query.name.length)
  query_shows = rw said.query.name (part_shows s said.line.allowed 9)

  target_shows : (All Graphic (part_bytes s r.target.name)) × (length (part_bytes s r.target.name) ≡ r.target.name.length)
  target_shows = rw said.target.name (part_shows s said.line.allowed 13)

  names_valid : (ts qs zs : List ℕ) → psl_valid r ts qs zs ≡ true → psl_valid (named r (psl_names s r).first (psl_names s r).second) ts qs zs ≡ true
  names_valid ts qs zs v = valid_named r (psl_names s r) ts qs zs query_shows.1 target_shows.1 v

-- and the table that it left
left : (s : List ℕ) (before after : List Row) (r : Psl) → RowsRead s before after (Ok r) → PslValid r (psl_names s r) after
unfolding record_check
left s before after r h =
    let ok = (read_of (psl_reads s) (length before) r (sym h.is)).0 in
    record {
      rules = rules_of (named r (psl_names s r).first (psl_names s r).second) _ _ _ (names_valid s r ok _ _ _ (holds_if _ (left_valid s r before after h)));
      query_shows = (query_shows s r ok).0;
      target_shows = (target_shows s r ok).0;
    }

-- ---- a valid record: written, and read back
module _ (r : Psl) (ns : Names) (table : List Row) (ok : PslValid r ns table) where
  abbrev ts : List ℕ
  ts = targets_of table

  abbrev qs : List ℕ
  qs = queries_of table

  abbrev zs : List ℕ
  zs = sizes_of table

  abbrev text : List ℕ
  text = psl_text r ns.first ns.second ts qs zs

  may : write_check r ns.first ns.second ts qs zs ≡ Ok tt
  may = passes r ns ts qs zs ok.rules ok.query_shows ok.target_shows

  pub short : length text ≤ text_limit
  short = psl_short r ns.first ns.second ts qs zs ok.rules

  pub writes_as : (room : ℕ) → psl_write r ns.first ns.second ts qs zs room ≡ room_answer (length text) room
  unfolding psl_write
  writes_as room = rw may

  same : SamePsl r (placed text r)
  unfolding placed
  same = record { counts = refl; strand = refl; qSize = refl; qStart = refl; qEnd = refl; tSize = refl; tStart = refl; tEnd = refl; blockCount = refl }

  same_names : psl_names text (placed text r) ≡ ns
  same_names =
      let a = back_query r ns.first ns.second ts qs zs may short in
      let b = back_target r ns.first ns.second ts qs zs may short in
      λ i. record { first = a i; second = b i }

-- what a text spells is what its checker accepts, with the rows of its block columns
pub spelt_check : (s : List ℕ) (r : Psl) (rows : List Row) → PslSpells s r rows → psl_check s ≡ Ok r
spelt_check s r rows p = line_is s r _ _ _ _ _ p.line

pub spelt_rows : (s : List ℕ) (r : Psl) (rows : List Row) → PslSpells s r rows → rows ≡ psl_rows s
spelt_rows s r rows p =
    let a = line_targets s r _ _ _ _ _ p.line in
    let b = line_queries s r _ _ _ _ _ p.line in
    let c = line_sizes s r _ _ _ _ _ p.line in
    p.rows_said ∙ (λ i. table_of (a i) (b i) (c i))

pub spelt_of : (s : List ℕ) (r : Psl) → psl_check s ≡ Ok r → PslSpells s r (psl_rows s)
spelt_of s r ok = record { values = _; lists = _; targets = _; queries = _; sizes = _; line = line_of_lem s r ok; rows_said = refl }

-- its names are its words
pub names_said : (s : List ℕ) (r : Psl) (rows : List Row) → PslSpells s r rows → (psl_names s r ≡ psl_name_words s) × (psl_handed s r ≡ psl_names s r)
names_said s r rows p =
    let a = name_word s 9 r.query.name p.line.query.name in
    let b = name_word s 13 r.target.name p.line.target.name in
    let c = name_handed s 9 r.query.name p.line.query.name in
    let d = name_handed s 13 r.target.name p.line.target.name in
    (λ i. record { first = a i; second = b i }, λ i. record { first = c i; second = d i })

-- WHAT PSL SHOWS
pub psl_shown : Shown psl
unfolding psl record_check
psl_shown = record {
  filled = rows_filled;
  check_text = psl_check;
  read = psl_read;
  targets = λ s r. psl_targets s;
  queries = λ s r. psl_queries s;
  sizes = λ s r. psl_sizes s;
  reads = psl_reads;
  answered = λ s before after x h. h.is;
  stored = λ s before after r h. h.rows;
  promised = λ s before after r e h. record { is = e; rows = h };
  spelt_check = spelt_check;
  spelt_rows = spelt_rows;
  spelt_of = spelt_of;
  one = λ r r' e. cc;
  names_said = names_said;
  left_valid = left;
  valid = λ r table. psl_valid r (targets_of table) (queries_of table) (sizes_of table);
  checks = λ r table. refl;
  rules_of = λ r table h. rules_of r _ _ _ h;
  rules_is = λ r table h. rules_is r _ _ _ h;
  short = short;
  writes = λ r ns table before after x ok w. (w.is ∙ writes_as r ns table ok (length before), w.left);
  reads_back = λ r ns table before after x ok h room.
      let k = back_rows r ns.first ns.second table (may r ns table ok) (short r ns table ok) before after x room h in
      record { record' = placed (text r ns table ok) r; is_read = k.0; same_numbers = same r ns table ok; same_names = same_names r ns table ok; same_rows = k.1 };
}

pub psl_demand2 : Demand2 psl
psl_demand2 = demand2_of psl psl_shown

-- the record that a text spells is valid, with just the rows that it spells
pub spelt_valid : (s : List ℕ) (r : Psl) (rows : List Row) → PslSpells s r rows → PslValid r (psl_names s r) rows
unfolding psl
spelt_valid = demands.spelt_valid psl psl_shown
