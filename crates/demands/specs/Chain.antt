-- The chain as a format of the demands.
use Rattle.std.specs.Prelude.{ℕ, ◌≡◌, List, [], length, get_or, Ok, Err, Result}
use Rattle.ledger.specs.declared.Row.{Row}
use Rattle.ledger.specs.declared.Refusal.{Refusal}
use Rattle.text.specs.declared.Class.TheVariants.{Graphic}
use Rattle.text.specs.Scan.{run}
use Rattle.text.specs.Pieces.{line_of, words_of}
use Rattle.text.specs.Parts.{part_in, part_bytes}
use Rattle.blocks.specs.Rows.{table_of, targets_of, queries_of, sizes_of}
use Rattle.chain.specs.declared.Chain.{Chain}
use Rattle.chain.specs.Rules.{ChainText, ChainRules, named}
use Rattle.chain.specs.Write.{chain_text, ChainWrote, record_check}
use Rattle.table_chain.specs.Rows.{RowsRead}
use Rattle.entries.specs.Records.{chain_numbers}
use Rattle.demands.specs.Formats.{Names, Format}

-- the text is a chain (chain, specs/Rules.antt): the words of its header spell some values, its block lines say three lists, and record and rows are what they say
pub record ChainSpells (s : List ℕ) (r : Chain) (rows : List Row) : Type 0 where
  pub values : List ℕ
  pub block_lines : List (List ℕ)
  pub targets : List ℕ
  pub queries : List ℕ
  pub sizes : List ℕ
  pub text : ChainText s values block_lines r targets queries sizes
  pub rows_said : rows ≡ table_of targets queries sizes

-- the names, tName and qName
abbrev pub chain_names : List ℕ → Chain → Names
chain_names s r = record { first = part_bytes s r.tName; second = part_bytes s r.qName }

abbrev pub chain_handed : List ℕ → Chain → Names
chain_handed s r = record { first = part_bytes s (part_in s r.tName); second = part_bytes s (part_in s r.qName) }

abbrev pub chain_name_words : List ℕ → Names
chain_name_words s = record { first = get_or (words_of (line_of s)) 2 []; second = get_or (words_of (line_of s)) 7 [] }

pub record ChainValid (r : Chain) (ns : Names) (table : List Row) : Type 0 where
  pub rules : ChainRules (named r ns.first ns.second) (targets_of table) (queries_of table) (sizes_of table)
  pub target_shows : run Graphic ns.first ≡ length ns.first
  pub query_shows : run Graphic ns.second ≡ length ns.second

pub record SameChain (r r' : Chain) : Type 0 where
  pub score : r'.score ≡ r.score
  pub tSize : r'.tSize ≡ r.tSize
  pub tStart : r'.tStart ≡ r.tStart
  pub tEnd : r'.tEnd ≡ r.tEnd
  pub qSize : r'.qSize ≡ r.qSize
  pub qStrand : r'.qStrand ≡ r.qStrand
  pub qStart : r'.qStart ≡ r.qStart
  pub qEnd : r'.qEnd ≡ r.qEnd
  pub id : r'.id ≡ r.id
  pub blockCount : r'.blockCount ≡ r.blockCount

unfoldable pub chain : Format
chain = record {
  Record = Chain;
  blocks = λ r. r.blockCount;
  Answer = Result Chain Refusal;
  accepted = Ok;
  refused = Err;
  Spells = ChainSpells;
  names = chain_names;
  handed = chain_handed;
  name_words = chain_name_words;
  Reads = RowsRead;
  check = λ r table. record_check r (targets_of table) (queries_of table) (sizes_of table);
  Rules = λ r table. ChainRules r (targets_of table) (queries_of table) (sizes_of table);
  Valid = ChainValid;
  text = λ r ns table. chain_text r ns.first ns.second (targets_of table) (queries_of table) (sizes_of table);
  Writes = λ r ns table. ChainWrote r ns.first ns.second (targets_of table) (queries_of table) (sizes_of table);
  SameNumbers = SameChain;
  kind = 3;
  numbers = chain_numbers;
}
