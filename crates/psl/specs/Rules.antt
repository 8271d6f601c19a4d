-- What a PSL line and a PSL record are: the rules of the UCSC page and of 01, one field for each, with no order of checks in them.
use Rattle.std.specs.Prelude.{ℕ, ◌+◌, ◌≤◌, ◌<◌, ◌≡◌, List, [], length, take, get_or}
use Rattle.ledger.specs.declared.Part.{Part}
use Rattle.ledger.specs.declared.Strand.TheVariants.{Dot}
use Rattle.ledger.specs.Limits.{name_limit, largest_position}
use Rattle.ledger.specs.Strands.{strand_letter}
use Rattle.ledger.specs.Parts.{part_at}
use Rattle.text.specs.Words.{word_at}
use Rattle.columns.specs.OneLine.{OneLine}
use Rattle.blocks.specs.Blocks.{sum_of, gap_count, gap_bases}
use Rattle.blocks.specs.Rules.{Fills, RowsInUse}
use Rattle.blocks.specs.Strands.{strand_start, strand_end}
use Rattle.psl.specs.declared.Counts.{Counts}
use Rattle.psl.specs.declared.Side.{Side}
use Rattle.psl.specs.declared.Psl.{Psl}
use Rattle.psl.specs.Table.{psl_columns}
use Rattle.psl.specs.Columns as column
use Rattle.columns.specs.Names.{part_of}

-- a side of a record is what its columns spell, from its name's column k on: name, size, start, end
pub record SideSays (s vs : List ℕ) (k : ℕ) (x : Side) : Type 0 where
  pub name : x.name ≡ part_of (word_at s 0 k)
  pub size : x.size ≡ get_or vs (k + 1) 0
  pub start : x.start ≡ get_or vs (k + 2) 0
  pub end : x.end ≡ get_or vs (k + 3) 0

-- a span: not empty, and within its sequence
pub record SpanIn (x : Side) : Type 0 where
  pub some : x.start < x.end
  pub within : x.end ≤ x.size

-- the house rules of the counts over n rows
pub record CountRules (c : Counts) (ts qs zs : List ℕ) : Type 0 where
  pub bases : sum_of zs ≡ c.matches + c.misMatches + c.repMatches + c.nCount
  pub query_gaps : gap_count qs zs ≡ c.qNumInsert
  pub query_bases : gap_bases qs zs ≡ c.qBaseInsert
  pub target_gaps : gap_count ts zs ≡ c.tNumInsert
  pub target_bases : gap_bases ts zs ≡ c.tBaseInsert

-- the text s is a PSL line whose words spell the values vs and the lists ls, one a column; the record r with the rows ts, qs, zs is what it says
pub record PslLine (s vs : List ℕ) (ls : List (List ℕ)) (r : Psl) (ts qs zs : List ℕ) : Type 0 where
  pub line : OneLine psl_columns s vs ls
  -- the record is what the words spell
  pub matches : r.counts.matches ≡ get_or vs column.matches 0
  pub misMatches : r.counts.misMatches ≡ get_or vs column.mis_matches 0
  pub repMatches : r.counts.repMatches ≡ get_or vs column.rep_matches 0
  pub nCount : r.counts.nCount ≡ get_or vs column.n_count 0
  pub qNumInsert : r.counts.qNumInsert ≡ get_or vs column.q_num_insert 0
  pub qBaseInsert : r.counts.qBaseInsert ≡ get_or vs column.q_base_insert 0
  pub tNumInsert : r.counts.tNumInsert ≡ get_or vs column.t_num_insert 0
  pub tBaseInsert : r.counts.tBaseInsert ≡ get_or vs column.t_base_insert 0
  pub strand : strand_letter r.strand ≡ get_or vs column.strand 0
  pub query : SideSays s vs column.q_name r.query
  pub target : SideSays s vs column.t_name r.target
  pub blockCount : r.blockCount ≡ get_or vs column.block_count 0
  pub listed_sizes : zs ≡ get_or ls column.block_sizes []
  pub listed_queries : qs ≡ get_or ls column.q_starts []
  pub listed_targets : ts ≡ get_or ls column.t_starts []
  -- the spans
  pub query_span : SpanIn r.query
  pub target_span : SpanIn r.target
  -- the blocks, on each side in order from first start to last end; with `-` the query's count on the reversed query
  pub target_blocks : Fills r.target.start r.target.end r.blockCount ts zs
  pub query_blocks : Fills (strand_start r.strand r.query.size r.query.start r.query.end) (strand_end r.strand r.query.size r.query.start r.query.end) r.blockCount qs zs
  -- the house counts
  pub counts : CountRules r.counts ts qs zs

-- the numbers of a side in their ranges, and its name's length
pub record SideRange (x : Side) : Type 0 where
  pub name_some : 1 ≤ x.name.length
  pub name_short : x.name.length ≤ name_limit
  pub size_some : 1 ≤ x.size
  pub size_range : x.size ≤ largest_position
  pub start_range : x.start ≤ largest_position
  pub end_range : x.end ≤ largest_position

-- the record r with the first blockCount rows of ts, qs, zs is a PSL record
pub record PslRules (r : Psl) (ts qs zs : List ℕ) : Type 0 where
  pub rows : RowsInUse r.blockCount ts qs zs
  pub strand : r.strand ≡ Dot → ⊥
  -- ranges
  pub query_range : SideRange r.query
  pub target_range : SideRange r.target
  pub matches_range : r.counts.matches ≤ largest_position
  pub mis_matches_range : r.counts.misMatches ≤ largest_position
  pub rep_matches_range : r.counts.repMatches ≤ largest_position
  pub n_count_range : r.counts.nCount ≤ largest_position
  pub q_num_insert_range : r.counts.qNumInsert ≤ largest_position
  pub q_base_insert_range : r.counts.qBaseInsert ≤ largest_position
  pub t_num_insert_range : r.counts.tNumInsert ≤ largest_position
  pub t_base_insert_range : r.counts.tBaseInsert ≤ largest_position
  -- the spans
  pub query_span : SpanIn r.query
  pub target_span : SpanIn r.target
  -- the blocks
  pub target_blocks : Fills r.target.start r.target.end r.blockCount ts zs
  pub query_blocks : Fills (strand_start r.strand r.query.size r.query.start r.query.end) (strand_end r.strand r.query.size r.query.start r.query.end) r.blockCount qs zs
  -- the house counts
  pub counts : CountRules r.counts (take r.blockCount ts) (take r.blockCount qs) (take r.blockCount zs)

-- a side with another name, and the record with names of these lengths
abbrev pub renamed : Side → Part → Side
renamed x p = record { name = p; size = x.size; start = x.start; end = x.end }

abbrev pub named : Psl → List ℕ → List ℕ → Psl
named r qName tName = record {
  counts = r.counts;
  strand = r.strand;
  query = renamed r.query (part_at 0 (length qName));
  target = renamed r.target (part_at 0 (length tName));
  blockCount = r.blockCount;
}

-- the record with its names where they stand in a text: what the reader makes of the record's standard text
unfoldable pub placed : List ℕ → Psl → Psl
placed s r = record {
  counts = r.counts;
  strand = r.strand;
  query = renamed r.query (part_of (word_at s 0 column.q_name));
  target = renamed r.target (part_of (word_at s 0 column.t_name));
  blockCount = r.blockCount;
}
