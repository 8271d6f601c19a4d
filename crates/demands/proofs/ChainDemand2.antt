-- Demand 2 holds of chains. Assumes nothing.
use mathlib.Core.Path.{◌≡◌, refl, sym, ◌∙◌}
use mathlib.Core.Bool.{true}
use mathlib.Core.List.{List}
use Prim.Native.Nat.{ℕ, ◌≤◌}
use lib.ListN.{length, take, drop}
use Rattle.std.specs.Prelude.{Ok}
use Rattle.ledger.specs.declared.Row.{Row}
use Rattle.ledger.specs.Limits.{text_limit}
use Rattle.text.specs.declared.Class.TheVariants.{Graphic}
use Rattle.text.specs.Words.{next_line}
use Rattle.text.specs.Pieces.{lines_of}
use Rattle.columns.specs.Columns.{values_from}
use Rattle.columns.specs.Spells.{firsts}
use Rattle.text.specs.Parts.{part_bytes}
use Rattle.text.proofs.TextLaws.{All, both}
use Rattle.writing.specs.Answers.{room_answer}
use Rattle.blocks.specs.Blocks.{count_fits, rows_of, row_numbers_fit}
use Rattle.blocks.specs.Rows.{table_of, targets_of, queries_of, sizes_of}
use Rattle.chain.specs.declared.Chain.{Chain}
use Rattle.chain.specs.Records.{chain_targets, chain_queries, chain_sizes, chain_rows}
use Rattle.chain.specs.Read.{chain_read, chain_check}
use Rattle.chain.specs.Table.{chain_columns}
use Rattle.chain.specs.Rules.{ChainText, ChainRules, named, placed}
use Rattle.ledger.specs.Strands.{is_told}
use Rattle.chain.specs.Tests.{names_fit, fields_fit, spans_fit, rows_fit, chain_valid}
use Rattle.chain.specs.Write.{names_show, write_check, chain_text, chain_write, record_check}
use Rattle.chain_laws.proofs.TextLaws.{text_of_lem, text_is, text_targets, text_queries, text_sizes}
use Rattle.chain_laws.proofs.RuleLaws.{rules_of, rules_is}
use Rattle.chain_laws.proofs.BackLaws.{back_target_name, back_query_name}
use Rattle.demands.specs.Formats.{Names}
use Rattle.demands.specs.Demand2.{Demand2}
use Rattle.demands.specs.Chain.{chain_names, chain_handed, chain_name_words, ChainSpells, ChainValid, SameChain, chain}
use Rattle.rows.proofs.ReaderLaws.{read_of}
use Rattle.table_chain.proofs.RowLaws.{chain_reads}
use Rattle.table_chain.specs.Rows.{RowsRead, rows_filled}
use Rattle.table_chain.proofs.TableLaws.{left_valid, back_rows}
use Rattle.columns.proofs.PartLaws.{part_shows, name_word, name_handed}
use Rattle.demands.proofs.RowLaws.{holds_if}
use Rattle.demands.proofs.FormatLaws.{Shown, demand2_of}
use Rattle.demands.proofs.FormatLaws as demands
use Rattle.demands.proofs.LengthLaws.{chain_short}
use Rattle.columns.proofs.WordLaws.{graphic_all}

-- the test of a record sees only the lengths of its names
pub valid_named : (r : Chain) (ns : Names) (ts qs zs : List ℕ) → length ns.first ≡ r.tName.length → length ns.second ≡ r.qName.length → chain_valid r ts qs zs ≡ true → chain_valid (named r ns.first ns.second) ts qs zs ≡ true
unfolding chain_valid fields_fit spans_fit rows_fit
valid_named r ns ts qs zs e f h = rw (e, f) h

-- a valid record passes the writer's checks
passes : (r : Chain) (ns : Names) (ts qs zs : List ℕ) → ChainRules (named r ns.first ns.second) ts qs zs → All Graphic ns.first → All Graphic ns.second → write_check r ns.first ns.second ts qs zs ≡ Ok tt
unfolding write_check names_show chain_valid fields_fit spans_fit rows_fit
passes r ns ts qs zs k c d =
    let n = r.blockCount in
    let v = rules_is (named r ns.first ns.second) ts qs zs k in
    let count = both (count_fits n (rows_of ts qs zs)) _ v in
    let names = both (names_fit (length ns.first) (length ns.second)) _ count.1 in
    let strand = both (is_told r.qStrand) _ names.1 in
    let fields = both (fields_fit (named r ns.first ns.second)) _ strand.1 in
    let numbers = both (row_numbers_fit (take n ts) (take n qs) (take n zs)) _ fields.1 in
    let spans = both (spans_fit (named r ns.first ns.second)) (rows_fit (named r ns.first ns.second) (take n ts) (take n qs) (take n zs)) numbers.1 in
    rw (count.0, names.0, graphic_all ns.first c, graphic_all ns.second d, strand.0, fields.0, numbers.0, spans.0, spans.1)

-- ---- an accepted text: its names, and its rows
module _ (s : List ℕ) (r : Chain) (ok : chain_check s ≡ Ok r) where
  said : ChainText s (firsts (values_from chain_columns 0 s 0)) (lines_of (drop (next_line s 0) s)) r (chain_targets s r) (chain_queries s r) (chain_sizes s r)
  said = text_of_lem s r ok

  pub target_shows : (All Graphic (part_bytes s r.tName)) × (length (part_bytes s r.tName) ≡ r.tName.length)
  target_shows = rw said.tName (part_shows s said.allowed 2)

  pub query_shows : (All Graphic (part_bytes s r.qName)) × (length (part_bytes s r.qName) ≡ r.qName.length)
  query_shows = rw said.qName (part_shows s said.allowed 7)

  names_valid : (ts qs zs : List ℕ) → chain_valid r ts qs zs ≡ true → chain_valid (named r (chain_names s r).first (chain_names s r).second) ts qs zs ≡ true
  names_valid ts qs zs v = valid_named r (chain_names s r) ts qs zs target_shows.1 query_shows.1 v

-- and the table that it left
left : (s : List ℕ) (before after : List Row) (r : Chain) → RowsRead s before after (Ok r) → ChainValid r (chain_names s r) after
unfolding record_check
left s before after r h =
    let ok = (read_of (chain_reads s) (length before) r (sym h.is)).0 in
    record {
      rules = rules_of (named r (chain_names s r).first (chain_names s r).second) _ _ _ (names_valid s r ok _ _ _ (holds_if _ (left_valid s r before after h)));
      target_shows = (target_shows s r ok).0;
      query_shows = (query_shows s r ok).0;
    }

-- ---- a valid record: written, and read back
module _ (r : Chain) (ns : Names) (table : List Row) (ok : ChainValid r ns table) where
  abbrev ts : List ℕ
  ts = targets_of table

  abbrev qs : List ℕ
  qs = queries_of table

  abbrev zs : List ℕ
  zs = sizes_of table

  abbrev text : List ℕ
  text = chain_text r ns.first ns.second ts qs zs

  may : write_check r ns.first ns.second ts qs zs ≡ Ok tt
  may = passes r ns ts qs zs ok.rules ok.target_shows ok.query_shows

  pub short : length text ≤ text_limit
  short = chain_short r ns.first ns.second ts qs zs ok.rules

  pub writes_as : (room : ℕ) → chain_write r ns.first ns.second ts qs zs room ≡ room_answer (length text) room
  unfolding chain_write
  writes_as room = rw may

  same : SameChain r (placed text r)
  unfolding placed
  same = record { score = refl; tSize = refl; tStart = refl; tEnd = refl; qSize = refl; qStrand = refl; qStart = refl; qEnd = refl; id = refl; blockCount = refl }

  same_names : chain_names text (placed text r) ≡ ns
  same_names =
      let a = back_target_name r ns.first ns.second ts qs zs may short in
      let b = back_query_name r ns.first ns.second ts qs zs may short in
      λ i. record { first = a i; second = b i }

-- what a text spells is what its checker accepts, with the rows of its block lines
pub spelt_check : (s : List ℕ) (r : Chain) (rows : List Row) → ChainSpells s r rows → chain_check s ≡ Ok r
spelt_check s r rows p = text_is s _ _ r _ _ _ p.text

pub spelt_rows : (s : List ℕ) (r : Chain) (rows : List Row) → ChainSpells s r rows → rows ≡ chain_rows s r
spelt_rows s r rows p =
    let a = text_targets s _ _ r _ _ _ p.text in
    let b = text_queries s _ _ r _ _ _ p.text in
    let c = text_sizes s _ _ r _ _ _ p.text in
    p.rows_said ∙ (λ i. table_of (a i) (b i) (c i))

pub spelt_of : (s : List ℕ) (r : Chain) → chain_check s ≡ Ok r → ChainSpells s r (chain_rows s r)
spelt_of s r ok = record { values = _; block_lines = _; targets = _; queries = _; sizes = _; text = text_of_lem s r ok; rows_said = refl }

-- its names are its words
pub names_said : (s : List ℕ) (r : Chain) (rows : List Row) → ChainSpells s r rows → (chain_names s r ≡ chain_name_words s) × (chain_handed s r ≡ chain_names s r)
names_said s r rows p =
    let a = name_word s 2 r.tName p.text.tName in
    let b = name_word s 7 r.qName p.text.qName in
    let c = name_handed s 2 r.tName p.text.tName in
    let d = name_handed s 7 r.qName p.text.qName in
    (λ i. record { first = a i; second = b i }, λ i. record { first = c i; second = d i })

-- WHAT THE CHAIN SHOWS
pub chain_shown : Shown chain
unfolding chain record_check
chain_shown = record {
  filled = rows_filled;
  check_text = chain_check;
  read = chain_read;
  targets = chain_targets;
  queries = chain_queries;
  sizes = chain_sizes;
  reads = chain_reads;
  answered = λ s before after x h. h.is;
  stored = λ s before after r h. h.rows;
  promised = λ s before after r e h. record { is = e; rows = h };
  spelt_check = spelt_check;
  spelt_rows = spelt_rows;
  spelt_of = spelt_of;
  one = λ r r' e. cc;
  names_said = names_said;
  left_valid = left;
  valid = λ r table. chain_valid r (targets_of table) (queries_of table) (sizes_of table);
  checks = λ r table. refl;
  rules_of = λ r table h. rules_of r _ _ _ h;
  rules_is = λ r table h. rules_is r _ _ _ h;
  short = short;
  writes = λ r ns table before after x ok w. (w.is ∙ writes_as r ns table ok (length before), w.left);
  reads_back = λ r ns table before after x ok h room.
      let k = back_rows r ns.first ns.second table (may r ns table ok) (short r ns table ok) before after x room h in
      record { record' = placed (text r ns table ok) r; is_read = k.0; same_numbers = same r ns table ok; same_names = same_names r ns table ok; same_rows = k.1 };
}

pub chain_demand2 : Demand2 chain
chain_demand2 = demand2_of chain chain_shown

-- the record that a text spells is valid, with just the rows that it spells
pub spelt_valid : (s : List ℕ) (r : Chain) (rows : List Row) → ChainSpells s r rows → ChainValid r (chain_names s r) rows
unfolding chain
spelt_valid = demands.spelt_valid chain chain_shown
