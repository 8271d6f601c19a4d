-- A worked PSL record of three blocks on strand `-`: it may be written, its text is the line, and the line reads back. Assumes nothing.
use mathlib.Core.Path.{◌≡◌, refl}
use mathlib.Core.List.{List, [], ◌∷◌}
use Prim.Native.Nat.{ℕ, ◌≤◌}
use native.Mathlib.Omega.{arith}
use lib.ListN.{length}
use Rattle.ledger.specs.declared.Strand.TheVariants.{Minus}
use Rattle.ledger.specs.Limits.{text_limit}
use Rattle.ledger.specs.Parts.{part_at}
use Rattle.text.specs.Scan.{run, end_of}
use Rattle.text.specs.Parts.{part_bytes}
use Rattle.text.specs.Pieces.{joined}
use Rattle.writing.specs.Digits.{digits_in, digits, list_text}
use Rattle.blocks.specs.Blocks.{order_from, blocks_fill, sum_of, all_between, gaps_from, bases_from, gap_count, gap_bases, row_numbers_fit}
use Rattle.psl.specs.declared.Psl.{Psl}
use Rattle.psl.specs.Records.{psl_sizes, psl_queries, psl_targets}
use Rattle.psl.specs.Read.{psl_read}
use Rattle.psl.specs.Rows.{rows_fit, counts_fit}
use Rattle.psl.specs.Rules.{placed}
use Rattle.psl.specs.Tests.{count_numbers_fit, fields_fit, spans_fit}
use Rattle.psl.specs.Write.{words_show, write_check, psl_words, psl_text}
use Rattle.psl_laws.proofs.BackLaws.{back_read, back_query, back_target, back_sizes, back_queries, back_targets}
use Rattle.std.specs.Prelude.{Ok}

-- the accepted PSL sample of 01
abbrev sample : Psl
sample = record {
  counts = record { matches = 27; misMatches = 0; repMatches = 0; nCount = 0; qNumInsert = 1; qBaseInsert = 1; tNumInsert = 1; tBaseInsert = 3 };
  strand = Minus;
  query = record { name = part_at 0 2; size = 80; start = 47; end = 75 };
  target = record { name = part_at 2 2; size = 100; start = 10; end = 40 };
  blockCount = 3;
}

-- qB, tA
abbrev q_b : List ℕ
q_b = 113 ∷ 66 ∷ []

abbrev t_a : List ℕ
t_a = 116 ∷ 65 ∷ []

-- three blocks: targets, queries on the reversed query, sizes
abbrev targets : List ℕ
targets = 10 ∷ 23 ∷ 31 ∷ []

abbrev queries : List ℕ
queries = 5 ∷ 15 ∷ 24 ∷ []

abbrev sizes_lem : List ℕ
sizes_lem = 10 ∷ 8 ∷ 9 ∷ []

-- 27 0 0 0 1 1 1 3 - qB 80 47 75 tA 100 10 40 3 10,8,9, 5,15,24, 10,23,31, with tabs between and a line feed
abbrev line : List ℕ
line =
    50 ∷ 55 ∷ 9 ∷ 48 ∷ 9 ∷ 48 ∷ 9 ∷ 48 ∷ 9 ∷ 49 ∷ 9 ∷ 49 ∷ 9 ∷ 49 ∷ 9 ∷ 51 ∷ 9
    ∷ 45 ∷ 9 ∷ 113 ∷ 66 ∷ 9 ∷ 56 ∷ 48 ∷ 9 ∷ 52 ∷ 55 ∷ 9 ∷ 55 ∷ 53 ∷ 9
    ∷ 116 ∷ 65 ∷ 9 ∷ 49 ∷ 48 ∷ 48 ∷ 9 ∷ 49 ∷ 48 ∷ 9 ∷ 52 ∷ 48 ∷ 9
    ∷ 51 ∷ 9
    ∷ 49 ∷ 48 ∷ 44 ∷ 56 ∷ 44 ∷ 57 ∷ 44 ∷ 9
    ∷ 53 ∷ 44 ∷ 49 ∷ 53 ∷ 44 ∷ 50 ∷ 52 ∷ 44 ∷ 9
    ∷ 49 ∷ 48 ∷ 44 ∷ 50 ∷ 51 ∷ 44 ∷ 51 ∷ 49 ∷ 44 ∷ 10 ∷ []

-- it may be written
pub sample_written : write_check sample q_b t_a targets queries sizes_lem ≡ Ok tt
unfolding write_check words_show count_numbers_fit fields_fit row_numbers_fit spans_fit rows_fit counts_fit end_of run order_from blocks_fill sum_of all_between gaps_from bases_from gap_count gap_bases
sample_written = refl

-- as this line
pub sample_text : psl_text sample q_b t_a targets queries sizes_lem ≡ line
unfolding psl_text psl_words joined digits_in digits list_text
sample_text = refl

sample_short : length (psl_text sample q_b t_a targets queries sizes_lem) ≤ text_limit
sample_short = rw sample_text (omega arith)

-- which reads back
pub sample_back : psl_read line 3 ≡ Ok (placed line sample)
sample_back = rw sample_text at (back_read sample q_b t_a targets queries sizes_lem sample_written sample_short 3 (omega arith))

pub sample_query : part_bytes line (placed line sample).query.name ≡ q_b
sample_query = rw sample_text at (back_query sample q_b t_a targets queries sizes_lem sample_written sample_short)

pub sample_target : part_bytes line (placed line sample).target.name ≡ t_a
sample_target = rw sample_text at (back_target sample q_b t_a targets queries sizes_lem sample_written sample_short)

pub sample_sizes : psl_sizes line ≡ sizes_lem
sample_sizes = rw sample_text at (back_sizes sample q_b t_a targets queries sizes_lem sample_written sample_short)

pub sample_queries : psl_queries line ≡ queries
sample_queries = rw sample_text at (back_queries sample q_b t_a targets queries sizes_lem sample_written sample_short)

pub sample_targets : psl_targets line ≡ targets
sample_targets = rw sample_text at (back_targets sample q_b t_a targets queries sizes_lem sample_written sample_short)
