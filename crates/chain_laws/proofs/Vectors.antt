-- Chain A of 01's bench samples: it may be written, its text is the sample, and the sample reads back. Assumes nothing.
use mathlib.Core.Path.{◌≡◌, refl}
use mathlib.Core.List.{List, [], ◌∷◌}
use Prim.Native.Nat.{ℕ, ◌≤◌}
use native.Mathlib.Omega.{arith}
use lib.ListN.{length}
use Rattle.ledger.specs.declared.Strand.TheVariants.{Minus}
use Rattle.ledger.specs.declared.Row.{Row}
use Rattle.ledger.specs.Parts.{part_at}
use Rattle.ledger.specs.Limits.{text_limit}
use Rattle.text.specs.Scan.{run, end_of}
use Rattle.text.specs.Parts.{part_bytes}
use Rattle.text.specs.Pieces.{joined}
use Rattle.writing.specs.Digits.{digits_in, digits}
use Rattle.blocks.specs.Blocks.{order_from, blocks_fill, all_between, row_numbers_fit}
use Rattle.blocks.specs.Rows.{row_as, targets_of, queries_of, sizes_of}
use Rattle.chain.specs.declared.Chain.{Chain}
use Rattle.chain.specs.Records.{chain_targets, chain_queries, chain_sizes}
use Rattle.chain.specs.Read.{chain_read}
use Rattle.chain.specs.Rules.{placed}
use Rattle.chain.specs.Tests.{names_fit, fields_fit, spans_fit, rows_fit}
use Rattle.chain.specs.Write.{names_show, write_check, head_words, gap_words, block_text, chain_text}
use Rattle.chain_laws.proofs.BackLaws.{back_read, back_target_name, back_targets, back_queries, back_sizes}
use Rattle.std.specs.Prelude.{Ok}

-- its record, as it is read, and its rows; worked examples elsewhere cite these
abbrev pub chain_a : Chain
chain_a = record {
  score = 100;
  tName = part_at 10 2;
  tSize = 100;
  tStart = 10;
  tEnd = 40;
  qName = part_at 25 2;
  qSize = 80;
  qStrand = Minus;
  qStart = 5;
  qEnd = 33;
  id = 7;
  blockCount = 3;
}

-- tA, qB
abbrev t_a : List ℕ
t_a = 116 ∷ 65 ∷ []

abbrev q_b : List ℕ
q_b = 113 ∷ 66 ∷ []

abbrev pub rows_a : List Row
rows_a = row_as 10 5 10 ∷ row_as 23 15 8 ∷ row_as 31 24 9 ∷ []

abbrev targets : List ℕ
targets = targets_of rows_a

abbrev queries : List ℕ
queries = queries_of rows_a

abbrev sizes_lem : List ℕ
sizes_lem = sizes_of rows_a

-- chain 100 tA 100 + 10 40 qB 80 - 5 33 7, then 10 3 0, 8 0 1 and 9, each with a line feed
abbrev sample : List ℕ
sample =
    99 ∷ 104 ∷ 97 ∷ 105 ∷ 110 ∷ 32 ∷ 49 ∷ 48 ∷ 48 ∷ 32 ∷ 116 ∷ 65 ∷ 32 ∷ 49 ∷ 48 ∷ 48 ∷ 32 ∷ 43 ∷ 32 ∷ 49 ∷ 48 ∷ 32 ∷ 52 ∷ 48 ∷ 32
    ∷ 113 ∷ 66 ∷ 32 ∷ 56 ∷ 48 ∷ 32 ∷ 45 ∷ 32 ∷ 53 ∷ 32 ∷ 51 ∷ 51 ∷ 32 ∷ 55 ∷ 10
    ∷ 49 ∷ 48 ∷ 32 ∷ 51 ∷ 32 ∷ 48 ∷ 10
    ∷ 56 ∷ 32 ∷ 48 ∷ 32 ∷ 49 ∷ 10
    ∷ 57 ∷ 10 ∷ []

-- it may be written
pub sample_written : write_check chain_a t_a q_b targets queries sizes_lem ≡ Ok tt
unfolding write_check names_show names_fit fields_fit row_numbers_fit spans_fit rows_fit end_of run order_from blocks_fill all_between
sample_written = refl

-- as this text
pub sample_text : chain_text chain_a t_a q_b targets queries sizes_lem ≡ sample
unfolding chain_text head_words gap_words block_text joined digits_in digits
sample_text = refl

sample_short : length (chain_text chain_a t_a q_b targets queries sizes_lem) ≤ text_limit
sample_short = rw sample_text (omega arith)

-- which reads back
pub sample_back : chain_read sample 3 ≡ Ok (placed sample chain_a)
sample_back = rw sample_text at (back_read chain_a t_a q_b targets queries sizes_lem sample_written sample_short 3 (omega arith))

pub sample_name : part_bytes sample (placed sample chain_a).tName ≡ t_a
sample_name = rw sample_text at (back_target_name chain_a t_a q_b targets queries sizes_lem sample_written sample_short)

pub sample_targets : chain_targets sample (placed sample chain_a) ≡ targets
sample_targets = rw sample_text at (back_targets chain_a t_a q_b targets queries sizes_lem sample_written sample_short)

pub sample_queries : chain_queries sample (placed sample chain_a) ≡ queries
sample_queries = rw sample_text at (back_queries chain_a t_a q_b targets queries sizes_lem sample_written sample_short)

pub sample_sizes : chain_sizes sample (placed sample chain_a) ≡ sizes_lem
sample_sizes = rw sample_text at (back_sizes chain_a t_a q_b targets queries sizes_lem sample_written sample_short)
