-- The samples marked P, on chain A, from its bytes. Assumes nothing.
use mathlib.Core.Path.{◌≡◌, refl}
use Prim.Native.Nat.{ℕ}
use lib.IntN.{pos}
use Rattle.std.specs.Prelude.{Ok}
use Rattle.ledger.specs.Limits.{block_limit}
use Rattle.text.specs.Scan.{run, end_of}
use Rattle.text.specs.Pieces.{pieces_of, lines_of, non_empty, words_of, line_of}
use Rattle.text.specs.Words.{line_end, next_line, next_word, word_at, word_count, bytes_of}
use Rattle.text.specs.Checks.{text_check, last_line_check, words_check}
use Rattle.text.specs.Parts.{part_bytes}
use Rattle.numbers.specs.Numbers.{well_spelt, value_from, value, number_of}
use Rattle.kinds.specs.Kinds.{same_bytes, name_of, strand_of, fixed_of, spelt}
use Rattle.columns.specs.Columns.{field_from, columns_from, values_from}
use Rattle.columns.specs.OneLine.{count_check}
use Rattle.blocks.specs.Blocks.{order_from, blocks_fill, all_between, row_numbers_fit}
use Rattle.blocks.specs.Rows.{table_of}
use Rattle.chain.specs.Table.{chain_columns, block_columns}
use Rattle.chain.specs.Records.{chain_record, line_values, size_at, target_gap, query_gap, targets_from, queries_from, sizes_from, chain_targets, chain_queries, chain_sizes, chain_rows}
use Rattle.chain.specs.Read.{span_check, block_words, block_numbers, block_line, lines_from, fill_check, after_last, after_lines, after_spans, after_columns, after_words, after_text, chain_stages, chain_check, chain_roomed, chain_read}
use Rattle.chain_laws.proofs.Vectors.{chain_a as recordA, rows_a}
use Rattle.chain.specs.Tests.{names_fit, fields_fit, spans_fit, rows_fit, chain_valid}
use Rattle.chain.specs.Write.{head_words, gap_words, block_text, chain_text}
use Rattle.text.specs.Pieces.{joined}
use Rattle.writing.specs.Digits.{digits_in, digits}
use Rattle.lift.specs.Accepted.{accepted}
use Rattle.lift.specs.Pairs.{block_pairs, pairs_of, pairs, partner_of}
use Rattle.lift.specs.Positions.{lift_position}
use Rattle.region.specs.Regions.{count_of, kept, dropped, partners_in, least, bound, inside, carried, lift_region}
use Rattle.turn.specs.Turns.{turned_rows, turned, turn}
use Rattle.demands.specs.Samples.{position_of, region_of, turned_text, read_chain, Outcome, lifted, lifted_region, bytes, refused, answer_to, chain_a, chain_turned, chain_long}
use Rattle.demands.specs.Samples as samples

-- what the reader makes of chain A
read_a : chain_read chain_a block_limit ≡ Ok recordA
unfolding run end_of pieces_of lines_of non_empty words_of line_of line_end next_line next_word word_at word_count bytes_of text_check last_line_check well_spelt value_from value number_of same_bytes name_of strand_of fixed_of spelt field_from columns_from values_from chain_columns block_columns chain_record line_values words_check count_check span_check block_words block_numbers block_line lines_from fill_check after_last after_lines after_spans after_columns after_words after_text chain_check chain_stages chain_roomed chain_read
read_a = refl

rows_a_lem : chain_rows chain_a recordA ≡ rows_a
unfolding chain_targets chain_queries chain_sizes targets_from queries_from sizes_from size_at target_gap query_gap line_values table_of values_from field_from next_word bytes_of word_count words_of line_of non_empty pieces_of next_line line_end end_of run spelt number_of well_spelt value value_from block_columns
rows_a_lem = refl

-- positions
module _ (p : ℕ) (o : Outcome) where
  position_a : samples.of_position (lift_position recordA rows_a p) ≡ o → answer_to chain_a (position_of p) ≡ o
  position_a h = rw (read_a, rows_a_lem) h

pub lifts_a : (answer_to chain_a (position_of 10) ≡ lifted 74 (pos 64)) × (answer_to chain_a (position_of 19) ≡ lifted 65 (pos 46)) × (answer_to chain_a (position_of 23) ≡ lifted 64 (pos 41))
    × (answer_to chain_a (position_of 31) ≡ lifted 55 (pos 24))
unfolding lift_position accepted chain_valid names_fit fields_fit row_numbers_fit spans_fit rows_fit blocks_fill order_from all_between pairs pairs_of block_pairs partner_of
lifts_a = (position_a 10 _ refl, position_a 19 _ refl, position_a 23 _ refl, position_a 31 _ refl)

pub refused_a : (answer_to chain_a (position_of 20) ≡ refused 12 0) × (answer_to chain_a (position_of 22) ≡ refused 12 0) × (answer_to chain_a (position_of 40) ≡ refused 12 0)
    × (answer_to chain_a (position_of 99) ≡ refused 12 0) × (answer_to chain_a (position_of 100) ≡ refused 13 0)
unfolding lift_position accepted chain_valid names_fit fields_fit row_numbers_fit spans_fit rows_fit blocks_fill order_from all_between pairs pairs_of block_pairs partner_of
refused_a = (position_a 20 _ refl, position_a 22 _ refl, position_a 40 _ refl, position_a 99 _ refl, position_a 100 _ refl)

-- regions
module _ (a e : ℕ) (o : Outcome) where
  region_a : samples.of_region (lift_region recordA rows_a a e) ≡ o → answer_to chain_a (region_of a e) ≡ o
  region_a h = rw (read_a, rows_a_lem) h

pub regions_a : (answer_to chain_a (region_of 18 25) ≡ lifted_region 4 3 63 67) × (answer_to chain_a (region_of 20 23) ≡ refused 12 0)
unfolding lift_region inside carried kept dropped count_of partners_in least bound accepted chain_valid names_fit fields_fit row_numbers_fit spans_fit rows_fit blocks_fill order_from all_between pairs pairs_of block_pairs partner_of
regions_a = (region_a 18 25 _ refl, region_a 20 23 _ refl)

-- the turned chain, whole
turned_of : samples.of_turn chain_a (turned_rows recordA rows_a) (turn recordA rows_a block_limit) ≡ bytes chain_turned
unfolding turn turned turned_rows accepted chain_valid names_fit fields_fit row_numbers_fit spans_fit rows_fit blocks_fill order_from all_between part_bytes chain_text head_words gap_words block_text joined digits_in digits
turned_of = refl

pub turned_a_lem : answer_to chain_a turned_text ≡ bytes chain_turned
turned_a_lem = rw (read_a, rows_a_lem) turned_of

-- the text itself, and the last size 10
pub read_ok : answer_to chain_a read_chain ≡ samples.accepted
read_ok = rw read_a

pub long_a_lem : answer_to chain_long read_chain ≡ refused 9 56
unfolding run end_of pieces_of lines_of non_empty words_of line_of line_end next_line next_word word_at word_count bytes_of text_check last_line_check well_spelt value_from value number_of same_bytes name_of strand_of fixed_of spelt field_from columns_from values_from chain_columns block_columns chain_record line_values words_check count_check span_check block_words block_numbers block_line lines_from fill_check after_last after_lines after_spans after_columns after_words after_text chain_check chain_stages chain_roomed chain_read
long_a_lem = refl
