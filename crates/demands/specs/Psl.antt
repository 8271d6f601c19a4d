-- PSL as a format of the demands.
use Rattle.std.specs.Prelude.{ℕ, ◌≡◌, List, [], length, get_or, Ok, Err, Result}
use Rattle.ledger.specs.declared.Row.{Row}
use Rattle.ledger.specs.declared.Refusal.{Refusal}
use Rattle.text.specs.declared.Class.TheVariants.{Graphic}
use Rattle.text.specs.Scan.{run}
use Rattle.text.specs.Pieces.{line_of, words_of}
use Rattle.text.specs.Parts.{part_in, part_bytes}
use Rattle.blocks.specs.Rows.{table_of, targets_of, queries_of, sizes_of}
use Rattle.psl.specs.declared.Psl.{Psl}
use Rattle.psl.specs.Rules.{PslLine, PslRules, named}
use Rattle.psl.specs.Write.{psl_text, PslWrote, record_check}
use Rattle.table_psl.specs.Rows.{RowsRead}
use Rattle.entries.specs.Records.{psl_numbers}
use Rattle.demands.specs.Formats.{Names, Format}

-- the text is a PSL line (psl, specs/Rules.antt): its words spell some values and lists, and record and rows are what they say
pub record PslSpells (s : List ℕ) (r : Psl) (rows : List Row) : Type 0 where
  pub values : List ℕ
  pub lists : List (List ℕ)
  pub targets : List ℕ
  pub queries : List ℕ
  pub sizes : List ℕ
  pub line : PslLine s values lists r targets queries sizes
  pub rows_said : rows ≡ table_of targets queries sizes

-- the names, qName and tName
abbrev pub psl_names : List ℕ → Psl → Names
psl_names s r = record { first = part_bytes s r.query.name; second = part_bytes s r.target.name }

abbrev pub psl_handed : List ℕ → Psl → Names
psl_handed s r = record { first = part_bytes s (part_in s r.query.name); second = part_bytes s (part_in s r.target.name) }

abbrev pub psl_name_words : List ℕ → Names
psl_name_words s = record { first = get_or (words_of (line_of s)) 9 []; second = get_or (words_of (line_of s)) 13 [] }

pub record PslValid (r : Psl) (ns : Names) (table : List Row) : Type 0 where
  pub rules : PslRules (named r ns.first ns.second) (targets_of table) (queries_of table) (sizes_of table)
  pub query_shows : run Graphic ns.first ≡ length ns.first
  pub target_shows : run Graphic ns.second ≡ length ns.second

pub record SamePsl (r r' : Psl) : Type 0 where
  pub counts : r'.counts ≡ r.counts
  pub strand : r'.strand ≡ r.strand
  pub qSize : r'.query.size ≡ r.query.size
  pub qStart : r'.query.start ≡ r.query.start
  pub qEnd : r'.query.end ≡ r.query.end
  pub tSize : r'.target.size ≡ r.target.size
  pub tStart : r'.target.start ≡ r.target.start
  pub tEnd : r'.target.end ≡ r.target.end
  pub blockCount : r'.blockCount ≡ r.blockCount

unfoldable pub psl : Format
psl = record {
  Record = Psl;
  blocks = λ r. r.blockCount;
  Answer = Result Psl Refusal;
  accepted = Ok;
  refused = Err;
  Spells = PslSpells;
  names = psl_names;
  handed = psl_handed;
  name_words = psl_name_words;
  Reads = RowsRead;
  check = λ r table. record_check r (targets_of table) (queries_of table) (sizes_of table);
  Rules = λ r table. PslRules r (targets_of table) (queries_of table) (sizes_of table);
  Valid = PslValid;
  text = λ r ns table. psl_text r ns.first ns.second (targets_of table) (queries_of table) (sizes_of table);
  Writes = λ r ns table. PslWrote r ns.first ns.second (targets_of table) (queries_of table) (sizes_of table);
  SameNumbers = SamePsl;
  kind = 2;
  numbers = psl_numbers;
}
