-- What a chain's text and a chain record are: the rules of the UCSC page and of 01, one field for each, with no order of checks in them.
use Rattle.std.specs.Prelude.{ℕ, ◌+◌, ◌≤◌, ◌<◌, ◌≡◌, List, [], ◌∷◌, length, take, get_or}
use Rattle.ledger.specs.Parts.{part_at}
use Rattle.ledger.specs.declared.Strand.TheVariants.{Dot}
use Rattle.ledger.specs.Limits.{text_limit, name_limit, block_limit, largest_position, chain_score_limit, chain_id_limit}
use Rattle.ledger.specs.Strands.{strand_letter}
use Rattle.text.specs.declared.Class.TheVariants.{Allowed}
use Rattle.text.specs.Scan.{run}
use Rattle.text.specs.Pieces.{lines_of, line_of, words_of}
use Rattle.text.specs.Words.{word_at}
use Rattle.columns.specs.Names.{part_of}
use Rattle.columns.specs.Spells.{Spells}
use Rattle.blocks.specs.Rules.{Fills, RowsInUse}
use Rattle.chain.specs.declared.Chain.{Chain}
use Rattle.chain.specs.Columns as column
use Rattle.chain.specs.Table.{chain_columns, block_columns}

-- lines of blocks and the rows that they say, the first block starting at t and q: each line but the last spells a size and the gaps to the next block, the
-- last a size alone, and its block ends at te and qe
pub data BlockLines (te qe : ℕ) : List (List ℕ) → ℕ → ℕ → List ℕ → List ℕ → List ℕ → Type 0 where
  last_line : {line : List ℕ} {ls : List (List ℕ)} {t q z : ℕ} → Spells (take column.last_count block_columns) 0 (words_of line) (z ∷ []) ls → t + z ≡ te → q + z ≡ qe → BlockLines te qe (line ∷ []) t q (t ∷ []) (q ∷ []) (z ∷ [])
  more_lines : {line : List ℕ} {lines ls : List (List ℕ)} {t q z dt dq : ℕ} {ts qs zs : List ℕ} → Spells block_columns 0 (words_of line) (z ∷ dt ∷ dq ∷ []) ls
      → BlockLines te qe lines (t + z + dt) (q + z + dq) ts qs zs → BlockLines te qe (line ∷ lines) t q (t ∷ ts) (q ∷ qs) (z ∷ zs)

-- the text s is a chain: a first line whose words spell the values vs, one a column, and the lines ls of its blocks; the record r with the rows ts, qs, zs
-- is what it says
pub record ChainText (s vs : List ℕ) (ls : List (List ℕ)) (r : Chain) (ts qs zs : List ℕ) : Type 0 where
  -- the text
  pub short : length s ≤ text_limit
  pub allowed : run Allowed s ≡ length s
  pub lines : lines_of s ≡ line_of s ∷ ls
  -- the words of its first line
  pub lists : List (List ℕ)
  pub spelt : Spells chain_columns 0 (words_of (line_of s)) vs lists
  -- the record is what they spell
  pub score : r.score ≡ get_or vs column.score 0
  pub tName : r.tName ≡ part_of (word_at s 0 column.t_name)
  pub tSize : r.tSize ≡ get_or vs column.t_size 0
  pub tStart : r.tStart ≡ get_or vs column.t_start 0
  pub tEnd : r.tEnd ≡ get_or vs column.t_end 0
  pub qName : r.qName ≡ part_of (word_at s 0 column.q_name)
  pub qSize : r.qSize ≡ get_or vs column.q_size 0
  pub qStrand : strand_letter r.qStrand ≡ get_or vs column.q_strand 0
  pub qStart : r.qStart ≡ get_or vs column.q_start 0
  pub qEnd : r.qEnd ≡ get_or vs column.q_end 0
  pub id : r.id ≡ get_or vs column.id 0
  -- the spans
  pub t_span : r.tStart < r.tEnd
  pub t_inside : r.tEnd ≤ r.tSize
  pub q_span : r.qStart < r.qEnd
  pub q_inside : r.qEnd ≤ r.qSize
  -- the blocks, from the start of either span to its end
  pub blocks : BlockLines r.tEnd r.qEnd ls r.tStart r.qStart ts qs zs
  pub count : length zs ≡ r.blockCount
  pub few : r.blockCount ≤ block_limit

-- the record r with the first blockCount rows of ts, qs, zs is a chain record
pub record ChainRules (r : Chain) (ts qs zs : List ℕ) : Type 0 where
  -- its blocks, and their numbers
  pub rows : RowsInUse r.blockCount ts qs zs
  -- names and strand
  pub t_name_some : 1 ≤ r.tName.length
  pub t_name_short : r.tName.length ≤ name_limit
  pub q_name_some : 1 ≤ r.qName.length
  pub q_name_short : r.qName.length ≤ name_limit
  pub stranded : r.qStrand ≡ Dot → ⊥
  -- ranges
  pub score_range : r.score ≤ chain_score_limit
  pub t_size_some : 1 ≤ r.tSize
  pub t_size_range : r.tSize ≤ largest_position
  pub t_start_range : r.tStart ≤ largest_position
  pub t_end_range : r.tEnd ≤ largest_position
  pub q_size_some : 1 ≤ r.qSize
  pub q_size_range : r.qSize ≤ largest_position
  pub q_start_range : r.qStart ≤ largest_position
  pub q_end_range : r.qEnd ≤ largest_position
  pub id_range : r.id ≤ chain_id_limit
  -- the spans
  pub t_span : r.tStart < r.tEnd
  pub t_inside : r.tEnd ≤ r.tSize
  pub q_span : r.qStart < r.qEnd
  pub q_inside : r.qEnd ≤ r.qSize
  -- the blocks
  pub t_blocks : Fills r.tStart r.tEnd r.blockCount ts zs
  pub q_blocks : Fills r.qStart r.qEnd r.blockCount qs zs

-- the record with names of these lengths: what the rules are asked of where the names are handed in beside it
abbrev pub named : Chain → List ℕ → List ℕ → Chain
named r tName qName = record {
  score = r.score;
  tName = part_at 0 (length tName);
  tSize = r.tSize;
  tStart = r.tStart;
  tEnd = r.tEnd;
  qName = part_at 0 (length qName);
  qSize = r.qSize;
  qStrand = r.qStrand;
  qStart = r.qStart;
  qEnd = r.qEnd;
  id = r.id;
  blockCount = r.blockCount;
}

-- the record with its names where they stand in a text: what the reader makes of the record's standard text
unfoldable pub placed : List ℕ → Chain → Chain
placed s r = record {
  score = r.score;
  tName = part_of (word_at s 0 column.t_name);
  tSize = r.tSize;
  tStart = r.tStart;
  tEnd = r.tEnd;
  qName = part_of (word_at s 0 column.q_name);
  qSize = r.qSize;
  qStrand = r.qStrand;
  qStart = r.qStart;
  qEnd = r.qEnd;
  id = r.id;
  blockCount = r.blockCount;
}
