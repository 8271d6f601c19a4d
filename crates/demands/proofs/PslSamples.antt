-- The PSL pair of the samples marked P, from its bytes. Assumes nothing.
use mathlib.Core.Path.{◌≡◌, refl}
use Rattle.text.specs.Scan.{run, end_of}
use Rattle.text.specs.Pieces.{pieces_of, lines_of, non_empty, words_of, line_of}
use Rattle.text.specs.Words.{line_end, next_line, next_word, word_at, word_count, bytes_of}
use Rattle.text.specs.Checks.{text_check, last_line_check, words_check}
use Rattle.numbers.specs.Numbers.{well_spelt, value_from, value, number_of}
use Rattle.numbers.specs.Lists.{items_of, test_items, last_byte, open_end, list_end, list_of, values_of}
use Rattle.kinds.specs.Kinds.{name_of, strand_of, spelt}
use Rattle.columns.specs.Columns.{field_from, columns_from, values_from}
use Rattle.blocks.specs.Blocks.{order_from, blocks_fill, sum_of, gaps_from, bases_from, gap_count, gap_bases}
use Rattle.psl.specs.Table.{psl_columns}
use Rattle.psl.specs.Records.{counts_of, side_of, psl_record, psl_sizes, psl_queries, psl_targets}
use Rattle.psl.specs.Rows.{rows_fit, counts_fit}
use Rattle.psl.specs.Read.{span_check, row_check, after_line, psl_stages, psl_check, psl_read}
use Rattle.columns.specs.OneLine.{count_check, line_read}
use Rattle.demands.specs.Samples.{read_psl, accepted, refused, answer_to, psl_line, psl_reversed}

pub psl_a : (answer_to psl_line read_psl ≡ accepted) × (answer_to psl_reversed read_psl ≡ refused 9 71)
unfolding run end_of pieces_of lines_of non_empty words_of line_of line_end next_line next_word word_at word_count bytes_of text_check last_line_check words_check well_spelt value_from value number_of items_of test_items last_byte open_end list_end list_of values_of name_of strand_of spelt field_from columns_from values_from order_from blocks_fill sum_of gaps_from bases_from gap_count gap_bases psl_columns counts_of side_of psl_record psl_sizes psl_queries psl_targets rows_fit counts_fit span_check row_check after_line psl_check psl_stages psl_read count_check line_read
psl_a = (refl, refl)
