-- The record of a chain, and the rows of its block lines.
use Rattle.std.specs.Prelude.{ℕ, zero, suc, ◌+◌, List, [], ◌∷◌, take}
use Rattle.ledger.specs.declared.Part.{Part}
use Rattle.ledger.specs.declared.Row.{Row}
use Rattle.ledger.specs.Parts.{part_at}
use Rattle.ledger.specs.Strands.{strand_of, strand_is}
use Rattle.text.specs.Words.{next_line, word_count}
use Rattle.columns.specs.Columns.{values_from, value_of, place_of}
use Rattle.blocks.specs.Rows.{table_of}
use Rattle.chain.specs.declared.Chain.{Chain}
use Rattle.chain.specs.Columns as column
use Rattle.chain.specs.Table.{block_columns}

-- the name in column k: where its word starts, and its length, which is its value
abbrev pub name_of : List ℕ → ℕ → Part
name_of vs k = part_at (place_of vs k) (value_of vs k)

-- the record of a header whose columns hold vs, two numbers a column, its value and where its word starts, with n blocks
unfoldable pub chain_record : List ℕ → ℕ → Chain
chain_record vs n = record {
  score = value_of vs column.score;
  tName = name_of vs column.t_name;
  tSize = value_of vs column.t_size;
  tStart = value_of vs column.t_start;
  tEnd = value_of vs column.t_end;
  qName = name_of vs column.q_name;
  qSize = value_of vs column.q_size;
  qStrand = strand_is (strand_of (value_of vs column.q_strand));
  qStart = value_of vs column.q_start;
  qEnd = value_of vs column.q_end;
  id = value_of vs column.id;
  blockCount = n;
}

-- what the block line at a place holds, two numbers a column; of a size alone the gaps are 0
unfoldable pub line_values : List ℕ → ℕ → List ℕ
line_values s line = values_from (take (word_count s line) block_columns) 0 s line

unfoldable pub size_at : List ℕ → ℕ → ℕ
size_at s line = value_of (line_values s line) column.size

-- the gap after the block, on the target and on the query
unfoldable pub target_gap : List ℕ → ℕ → ℕ
target_gap s line = value_of (line_values s line) column.dt

unfoldable pub query_gap : List ℕ → ℕ → ℕ
query_gap s line = value_of (line_values s line) column.dq

-- the rows of n block lines from the one at a place on, whose block starts at a on a side: each later block starts a gap past the end of the one before
unfoldable pub targets_from : ℕ → List ℕ → ℕ → ℕ → List ℕ
targets_from zero s line a = []
targets_from (suc n) s line a = a ∷ targets_from n s (next_line s line) (a + size_at s line + target_gap s line)

unfoldable pub queries_from : ℕ → List ℕ → ℕ → ℕ → List ℕ
queries_from zero s line a = []
queries_from (suc n) s line a = a ∷ queries_from n s (next_line s line) (a + size_at s line + query_gap s line)

unfoldable pub sizes_from : ℕ → List ℕ → ℕ → List ℕ
sizes_from zero s line = []
sizes_from (suc n) s line = size_at s line ∷ sizes_from n s (next_line s line)

-- the rows of a chain's text: its block lines stand after its first line
unfoldable pub chain_targets : List ℕ → Chain → List ℕ
chain_targets s r = targets_from r.blockCount s (next_line s 0) r.tStart

unfoldable pub chain_queries : List ℕ → Chain → List ℕ
chain_queries s r = queries_from r.blockCount s (next_line s 0) r.qStart

unfoldable pub chain_sizes : List ℕ → Chain → List ℕ
chain_sizes s r = sizes_from r.blockCount s (next_line s 0)

-- the same as a table
abbrev pub chain_rows : List ℕ → Chain → List Row
chain_rows s r = table_of (chain_targets s r) (chain_queries s r) (chain_sizes s r)
