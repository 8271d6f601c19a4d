-- For private contracts: what the steps of reading and writing a chain promise. Not a definition of the format.
use Rattle.std.specs.Prelude.{ℕ, ◌-◌, ◌*◌, ◌≤◌, ◌<◌, ◌≡◌, true, List, [], ◌∷◌, ◌++◌, length, take, drop, Ok, Err, Result, Option, Some, ⊤}
use Rattle.ledger.specs.Limits.{name_limit, block_limit, largest_position}
use Rattle.ledger.specs.Strands.{strand_letter}
use Rattle.text.specs.Checks.{then_check, room_check}
use Rattle.text.specs.Words.{line_end, next_line, next_word, word_count, bytes_of}
use Rattle.numbers.specs.declared.Taken.{Taken}
use Rattle.numbers.specs.Numbers.{number_of}
use Rattle.columns.specs.Columns.{columns_from, values_from, value_of}
use Rattle.columns.specs.Lines.{fed_line}
use Rattle.blocks.specs.Blocks.{rows_of}
use Rattle.blocks.specs.Readers.{RowsRead}
use Rattle.blocks.specs.Rules.{RowsInUse}
use Rattle.chain.specs.declared.Chain.{Chain}
use Rattle.chain.specs.declared.BlockLine.{BlockLine}
use Rattle.chain.specs.declared.BlockLine.TheVariants.{Last, Gap}
use Rattle.chain.specs.declared.Ending.{Ending}
use Rattle.chain.specs.declared.Head.{Head}
use Rattle.chain.specs.declared.Quick.{Quick}
use Rattle.chain.specs.declared.Step.{Step}
use Rattle.chain.specs.Columns as column
use Rattle.chain.specs.Table.{chain_columns}
use Rattle.chain.specs.Records.{targets_from, queries_from, sizes_from, chain_targets, chain_queries, chain_sizes}
use Rattle.chain.specs.Read.{is_block_count, block_words, limit_check, block_numbers, block_line, lines_from, chain_roomed, on_reading}
use Rattle.chain.specs.Write.{block_text}
use Rattle.ledger.specs.declared.Fault.{Fault}

-- before a block line is read: the limit, and only then its number of words
unfoldable pub line_check : List ℕ → ℕ → ℕ → ℕ → Result ⊤ Fault
line_check s line n k = then_check Err (limit_check line k) (block_words s line n)

-- the numbers of a block line
abbrev pub block_size : Result BlockLine Fault → ℕ
block_size (Ok (Last z)) = z
block_size (Ok (Gap z dt dq)) = z
block_size (Err x) = 0

abbrev pub block_target_gap : Result BlockLine Fault → ℕ
block_target_gap (Ok (Last z)) = 0
block_target_gap (Ok (Gap z dt dq)) = dt
block_target_gap (Err x) = 0

abbrev pub block_query_gap : Result BlockLine Fault → ℕ
block_query_gap (Ok (Last z)) = 0
block_query_gap (Ok (Gap z dt dq)) = dq
block_query_gap (Err x) = 0

-- a block line of a good number of words
pub record LineCounted (s : List ℕ) (line n : ℕ) : Type 0 where
  pub count : n ≡ word_count s line
  pub good : is_block_count n ≡ true

-- what reading the numbers of a block line promises: the block, and that its numbers are coordinates, which follows
pub record NumbersRead (s : List ℕ) (line n : ℕ) (r : Result BlockLine Fault) : Type 0 where
  pub is : r ≡ block_numbers s line n
  pub size : block_size r ≤ largest_position
  pub target_gap : block_target_gap r ≤ largest_position
  pub query_gap : block_query_gap r ≤ largest_position

abbrev pub block_one : Result BlockLine Fault → ℕ
block_one (Ok (Last z)) = 1
block_one (Ok (Gap z dt dq)) = 1
block_one (Err x) = 0

-- and what reading a block line promises, where k blocks may still come
pub record BlockRead (s : List ℕ) (line k : ℕ) (r : Result BlockLine Fault) : Type 0 where
  pub is : r ≡ then_check Err (limit_check line k) (block_line s line)
  pub room : block_one r ≤ k
  pub size : block_size r ≤ largest_position
  pub target_gap : block_target_gap r ≤ largest_position
  pub query_gap : block_query_gap r ≤ largest_position

-- what taking the number of a word promises: where one is taken, it is what the word at or after a place spells, and ends
-- with the word
pub record WordTaken (least : ℕ) (s : List ℕ) (at : ℕ) (r : Option Taken) : Type 0 where
  pub means : (x : Taken) → r ≡ Some x → number_of least largest_position (bytes_of s (next_word s at)) ≡ Ok x.value
  pub ends : (x : Taken) → r ≡ Some x → x.end ≡ (next_word s at).end
  pub some : (x : Taken) → r ≡ Some x → (next_word s at).start < (next_word s at).end
  pub small : (x : Taken) → r ≡ Some x → x.value ≤ largest_position

-- what seeing the rest of a line promises: where the next line is told, no word follows
pub record RestSeen (s : List ℕ) (at : ℕ) (r : Option ℕ) : Type 0 where
  pub none : (x : ℕ) → r ≡ Some x → (next_word s at).start ≡ (next_word s at).end
  pub next : (x : ℕ) → r ≡ Some x → x ≡ next_line s at

-- what taking a block line in one pass promises: what is taken is the block line
pub record GapTaken (s : List ℕ) (line : ℕ) (r : Option Quick) : Type 0 where
  pub is : (x : Quick) → r ≡ Some x → block_line s line ≡ Ok (Gap x.size x.dt x.dq)
  pub next : (x : Quick) → r ≡ Some x → x.next ≡ next_line s line
  pub size : (x : Quick) → r ≡ Some x → x.size ≤ largest_position
  pub target_gap : (x : Quick) → r ≡ Some x → x.dt ≤ largest_position
  pub query_gap : (x : Quick) → r ≡ Some x → x.dq ≤ largest_position

pub record LastTaken (s : List ℕ) (line : ℕ) (r : Option ℕ) : Type 0 where
  pub is : (z : ℕ) → r ≡ Some z → block_line s line ≡ Ok (Last z)
  pub size : (z : ℕ) → r ≡ Some z → z ≤ largest_position

-- and what reading a block line with the place of the next promises, where k blocks may still come
pub record StepRead (s : List ℕ) (line k : ℕ) (r : Step) : Type 0 where
  pub read : BlockRead s line k r.block
  pub next : (z dt dq : ℕ) → r.block ≡ Ok (Gap z dt dq) → r.next ≡ next_line s line

-- the working room of a reader holds n rows of the block lines from a place on: targets at its front, queries and sizes each after the room for a
-- record's blocks
pub record Placed (s : List ℕ) (from t q n : ℕ) (rows : List ℕ) : Type 0 where
  pub few : n ≤ block_limit
  pub targets : take n rows ≡ targets_from n s from t
  pub queries : take n (drop block_limit rows) ≡ queries_from n s from q
  pub sizes : take n (drop (2 * block_limit) rows) ≡ sizes_from n s from

-- where the block lines begin, before the walk over them
pub record Begins (t q : ℕ) (rows : List ℕ) : Type 0 where
  pub target : t ≤ largest_position
  pub query : q ≤ largest_position
  pub long : length rows ≡ 3 * block_limit

-- what the walk promises
pub record Walked (s : List ℕ) (from t q : ℕ) (rows rows' : List ℕ) (x : Result Ending Fault) : Type 0 where
  pub is : x ≡ lines_from block_limit s from t q
  pub long : length rows' ≡ 3 * block_limit
  pub held : (e : Ending) → x ≡ Ok e → Placed s from t q e.count rows'

-- the values of a header that was read up to a place, before its spans are tested
pub record Headed (s : List ℕ) (end : ℕ) (vs rows : List ℕ) : Type 0 where
  pub line : line_end s end ≡ line_end s 0
  pub target : value_of vs column.t_start ≤ largest_position
  pub query : value_of vs column.q_start ≤ largest_position
  pub long : length rows ≡ 3 * block_limit

-- what taking a header in one pass promises: where one is taken, the line has a header's number of words, and its columns are read
pub record HeadTaken (s : List ℕ) (r : Option Head) : Type 0 where
  pub count : (x : Head) → r ≡ Some x → word_count s 0 ≡ column.header_count
  pub read : (x : Head) → r ≡ Some x → columns_from chain_columns 0 s 0 ≡ Ok x.end
  pub values : (x : Head) → r ≡ Some x → values_from chain_columns 0 s 0 ≡ x.values

-- what storing the rows of a chain promises, the room first
abbrev pub RowsStored : List ℕ → Chain → List ℕ → List ℕ → List ℕ → List ℕ → List ℕ → List ℕ → Result Chain Fault → Type 0
RowsStored s r ts ts' qs qs' zs zs' x =
    RowsRead on_reading (then_check Err (room_check s r.blockCount (rows_of ts qs zs)) (Ok r)) (chain_targets s) (chain_queries s) (chain_sizes s) ts ts' qs qs' zs zs' x

-- and the stages before it
abbrev pub BlocksRead : List ℕ → List ℕ → List ℕ → List ℕ → List ℕ → List ℕ → List ℕ → Result Chain Fault → Type 0
BlocksRead s ts ts' qs qs' zs zs' x = RowsRead on_reading (chain_roomed s (rows_of ts qs zs)) (chain_targets s) (chain_queries s) (chain_sizes s) ts ts' qs qs' zs zs' x

-- the header as values by column, for the line writer: two numbers a column, a name's length and where it stands in a text of names
unfoldable pub chain_values : Chain → ℕ → ℕ → List ℕ
chain_values r tName qName =
    0 ∷ 0 ∷ r.score ∷ 0 ∷ tName ∷ 0 ∷ r.tSize ∷ 0 ∷ 0 ∷ 0 ∷ r.tStart ∷ 0 ∷ r.tEnd ∷ 0
    ∷ qName ∷ name_limit ∷ r.qSize ∷ 0 ∷ strand_letter r.qStrand ∷ 0 ∷ r.qStart ∷ 0 ∷ r.qEnd ∷ 0 ∷ r.id ∷ 0 ∷ []

-- the same text by the line writer's header
unfoldable pub text_of : List ℕ → List ℕ → ℕ → List ℕ → List ℕ → List ℕ → List ℕ
text_of names vs n ts qs zs = fed_line chain_columns 32 names vs [] ++ block_text (n - 1) 0 ts qs zs

-- the names and the rows of a record that passed the checks
pub record Writable (r : Chain) (tName qName ts qs zs : List ℕ) : Type 0 where
  pub t_short : length tName ≤ name_limit
  pub q_short : length qName ≤ name_limit
  pub rows : RowsInUse r.blockCount ts qs zs
