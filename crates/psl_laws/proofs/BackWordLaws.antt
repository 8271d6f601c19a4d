-- A PSL record that may be written: the rules that it obeys, and that each of its words is there, shows, and spells its column. Assumes nothing.
use mathlib.Core.Path.{◌≡◌, refl}
use mathlib.Core.Bool.{true, false, ◌&&◌}
use mathlib.Core.List.{List, [], ◌∷◌}
use Prim.Native.Nat.{ℕ, ◌≤◌, zero-le}
use native.Mathlib.Omega.{arith}
use lib.ListN.{length, take}
use lib.Seq.{length-take-le}
use Rattle.ledger.specs.declared.Strand.{Strand}
use Rattle.ledger.specs.declared.Strand.TheVariants.{Plus, Minus, Dot}
use Rattle.ledger.specs.Limits.{largest_position}
use Rattle.ledger.specs.Strands.{strand_letter, is_told}
use Rattle.text.specs.declared.Class.TheVariants.{Graphic}
use Rattle.text.proofs.StageLaws.{require_holds}
use Rattle.text.proofs.TextLaws.{All, both}
use Rattle.text.proofs.PieceLaws.{Worded}
use Rattle.numbers.specs.Ranges.{Between}
use Rattle.writing.specs.Digits.{digits}
use Rattle.kinds.specs.declared.Range.TheVariants.{Coordinate, Size}
use Rattle.kinds.specs.declared.Kind.TheVariants.{Number, Count, Stranded}
use Rattle.kinds.proofs.BackLaws.{Written, written_lem}
use Rattle.columns.proofs.Meant.{Meant}
use Rattle.blocks.specs.Blocks.{all_between, count_fits, rows_of, row_numbers_fit}
use Rattle.blocks.proofs.RuleLaws.{between_of}
use Rattle.psl.specs.declared.Psl.{Psl}
use Rattle.psl.specs.Table.{psl_columns}
use Rattle.psl.specs.Rows.{rows_fit, counts_fit}
use Rattle.psl.specs.Rules.{PslRules, named}
use Rattle.psl.specs.Tests.{fields_fit, spans_fit, psl_valid}
use Rattle.psl.specs.Steps.{column_values}
use Rattle.psl.specs.Write.{words_show, write_check, psl_words}
use Rattle.psl_laws.proofs.RuleLaws.{rules_of}
use Rattle.columns.specs.Names.{length_fits, all_graphic}
use Rattle.columns.proofs.WordLaws.{all_graphic_lem, name_written, list_written, row_spells, row_worded, Row, row_none, row_more, and_i}
use Rattle.std.specs.Prelude.{Ok}

-- what the writer's checks show of a record, its names and its rows
pub record MayWrite (r : Psl) (qName tName ts qs zs : List ℕ) : Type 0 where
  pub rules : PslRules (named r qName tName) ts qs zs
  pub told : is_told r.strand ≡ true
  pub query_shows : All Graphic qName
  pub target_shows : All Graphic tName
  pub targets : all_between 0 largest_position (take r.blockCount ts) ≡ true
  pub queries : all_between 0 largest_position (take r.blockCount qs) ≡ true
  pub sizes : all_between 1 largest_position (take r.blockCount zs) ≡ true

-- THE WRITER'S CHECKS, ONE BY ONE
pub may_write : (r : Psl) (qName tName ts qs zs : List ℕ) → write_check r qName tName ts qs zs ≡ Ok tt → MayWrite r qName tName ts qs zs
unfolding write_check words_show psl_valid fields_fit row_numbers_fit spans_fit rows_fit
may_write r qName tName ts qs zs e =
    let n = r.blockCount in
    let count = require_holds (count_fits n (rows_of ts qs zs)) _ _ e in
    let words = require_holds (words_show r qName tName) _ _ count.1 in
    let numbers = require_holds (fields_fit r && row_numbers_fit (take n ts) (take n qs) (take n zs)) _ _ words.1 in
    let spans = require_holds (spans_fit r) _ _ numbers.1 in
    let rows = require_holds (rows_fit r (take n ts) (take n qs) (take n zs)) _ _ spans.1 in
    let counts = require_holds (counts_fit r.counts (take n ts) (take n qs) (take n zs)) _ _ rows.1 in
    let names = both (length_fits (length qName) && (length_fits (length tName) && is_told r.strand)) (all_graphic qName && all_graphic tName) words.0 in
    let query = both (length_fits (length qName)) (length_fits (length tName) && is_told r.strand) names.0 in
    let target = both (length_fits (length tName)) (is_told r.strand) query.1 in
    let shown = both (all_graphic qName) (all_graphic tName) names.1 in
    let fields = both (fields_fit r) (row_numbers_fit (take n ts) (take n qs) (take n zs)) numbers.0 in
    let targets = both (all_between 0 largest_position (take n ts)) (all_between 0 largest_position (take n qs) && all_between 1 largest_position (take n zs)) fields.1 in
    let others = both (all_between 0 largest_position (take n qs)) (all_between 1 largest_position (take n zs)) targets.1 in
    let valid : psl_valid (named r qName tName) ts qs zs ≡ true = and_i _ _ count.0 (and_i _ _ names.0 (and_i _ _ fields.0 (and_i _ _ fields.1 (and_i _ _ spans.0 (and_i _ _ rows.0 counts.0))))) in
    record {
      rules = rules_of (named r qName tName) ts qs zs valid;
      told = target.1;
      query_shows = all_graphic_lem qName shown.0;
      target_shows = all_graphic_lem tName shown.1;
      targets = targets.0;
      queries = others.0;
      sizes = others.1;
    }

strand_written : (n : ℕ) (t : Strand) → is_told t ≡ true → Written (Stranded false) n (strand_letter t) (strand_letter t ∷ []) []
strand_written n Plus h = written_lem (Stranded false) [] [] n 0 (strand_letter Plus) 0 refl
strand_written n Minus h = written_lem (Stranded false) [] [] n 0 (strand_letter Minus) 0 refl
strand_written n Dot h = absurd (let z : ◌≡◌ {A = ℕ} 0 1 = cc in omega arith)

coordinate_written : (n v : ℕ) → v ≤ largest_position → Written (Number Coordinate) n v (digits v) []
coordinate_written n v h = written_lem (Number Coordinate) [] [] n 0 v 0 (zero-le, h)

-- the values of a record's columns, with its names
abbrev pub word_values : Psl → List ℕ → List ℕ → List ℕ
word_values r qName tName = column_values r (length qName) (length tName)

-- THE WORDS OF A RECORD SPELL IT
module _ (r : Psl) (qName tName ts qs zs : List ℕ) (ok : MayWrite r qName tName ts qs zs) where
  pub sizes_between : Between 1 largest_position (take r.blockCount zs)
  sizes_between = between_of 1 largest_position (take r.blockCount zs) ok.sizes

  pub queries_between : Between 0 largest_position (take r.blockCount qs)
  queries_between = between_of 0 largest_position (take r.blockCount qs) ok.queries

  pub targets_between : Between 0 largest_position (take r.blockCount ts)
  targets_between = between_of 0 largest_position (take r.blockCount ts) ok.targets

  row : Row psl_columns 0 (psl_words r qName tName ts qs zs) (word_values r qName tName)
  unfolding psl_columns psl_words
  row =
      let k = ok.rules in
      let n = r.blockCount in
      let q = k.query_range in
      let t = k.target_range in
      row_more (coordinate_written 0 r.counts.matches k.matches_range)
      (row_more (coordinate_written 0 r.counts.misMatches k.mis_matches_range)
      (row_more (coordinate_written 0 r.counts.repMatches k.rep_matches_range)
      (row_more (coordinate_written 0 r.counts.nCount k.n_count_range)
      (row_more (coordinate_written 0 r.counts.qNumInsert k.q_num_insert_range)
      (row_more (coordinate_written 0 r.counts.qBaseInsert k.q_base_insert_range)
      (row_more (coordinate_written 0 r.counts.tNumInsert k.t_num_insert_range)
      (row_more (coordinate_written 0 r.counts.tBaseInsert k.t_base_insert_range)
      (row_more (strand_written 0 r.strand ok.told)
      (row_more (name_written 0 qName q.name_some q.name_short ok.query_shows)
      (row_more (written_lem (Number Size) [] [] 0 0 r.query.size 0 (q.size_some, q.size_range))
      (row_more (coordinate_written 0 r.query.start q.start_range)
      (row_more (coordinate_written 0 r.query.end q.end_range)
      (row_more (name_written 0 tName t.name_some t.name_short ok.target_shows)
      (row_more (written_lem (Number Size) [] [] 0 0 r.target.size 0 (t.size_some, t.size_range))
      (row_more (coordinate_written 0 r.target.start t.start_range)
      (row_more (coordinate_written 0 r.target.end t.end_range)
      (row_more (written_lem Count [] [] 0 0 n 0 (k.rows.some_block, k.rows.few_blocks))
      (row_more (list_written Size n (take n zs) k.rows.some_block (length-take-le n zs k.rows.size_rows) sizes_between)
      (row_more (list_written Coordinate n (take n qs) k.rows.some_block (length-take-le n qs k.rows.query_rows) queries_between)
      (row_more (list_written Coordinate n (take n ts) k.rows.some_block (length-take-le n ts k.rows.target_rows) targets_between)
      row_none))))))))))))))))))))

  pub words_spell : Meant psl_columns 0 (psl_words r qName tName ts qs zs) (word_values r qName tName)
  words_spell = row_spells row

  pub words_worded : Worded (psl_words r qName tName ts qs zs)
  words_worded = row_worded row
