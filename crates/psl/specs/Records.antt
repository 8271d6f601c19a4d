-- The record of a PSL line: what its columns say.
use Rattle.std.specs.Prelude.{ℕ, ◌+◌, List}
use Rattle.ledger.specs.declared.Row.{Row}
use Rattle.ledger.specs.Strands.{strand_of, strand_is}
use Rattle.ledger.specs.Parts.{part_at}
use Rattle.text.specs.Words.{word_at, bytes_of}
use Rattle.numbers.specs.Lists.{values_of}
use Rattle.columns.specs.Columns.{value_of, place_of}
use Rattle.blocks.specs.Rows.{table_of}
use Rattle.psl.specs.declared.Counts.{Counts}
use Rattle.psl.specs.declared.Side.{Side}
use Rattle.psl.specs.declared.Psl.{Psl}
use Rattle.psl.specs.Columns as column

-- the columns hold vs: the value of each, and where its word starts. The first eight are the counts
unfoldable pub counts_of : List ℕ → Counts
counts_of vs = record {
  matches = value_of vs column.matches;
  misMatches = value_of vs column.mis_matches;
  repMatches = value_of vs column.rep_matches;
  nCount = value_of vs column.n_count;
  qNumInsert = value_of vs column.q_num_insert;
  qBaseInsert = value_of vs column.q_base_insert;
  tNumInsert = value_of vs column.t_num_insert;
  tBaseInsert = value_of vs column.t_base_insert;
}

-- a side from its name's column k on: name, size, start, end
unfoldable pub side_of : List ℕ → ℕ → Side
side_of vs k = record {
  name = part_at (place_of vs k) (value_of vs k);
  size = value_of vs (k + 1);
  start = value_of vs (k + 2);
  end = value_of vs (k + 3);
}

unfoldable pub psl_record : List ℕ → Psl
psl_record vs = record {
  counts = counts_of vs;
  strand = strand_is (strand_of (value_of vs column.strand));
  query = side_of vs column.q_name;
  target = side_of vs column.t_name;
  blockCount = value_of vs column.block_count;
}

-- the columns of rows: sizes, query starts (with `-` on the reversed query) and target starts
unfoldable pub psl_sizes : List ℕ → List ℕ
psl_sizes s = values_of (bytes_of s (word_at s 0 column.block_sizes))

unfoldable pub psl_queries : List ℕ → List ℕ
psl_queries s = values_of (bytes_of s (word_at s 0 column.q_starts))

unfoldable pub psl_targets : List ℕ → List ℕ
psl_targets s = values_of (bytes_of s (word_at s 0 column.t_starts))

-- the same as a table
abbrev pub psl_rows : List ℕ → List Row
psl_rows s = table_of (psl_targets s) (psl_queries s) (psl_sizes s)
