-- The rows that were read stand in the table. Assumes nothing.
use Rattle.table_bed.proofs.RowLaws.{rows_read}
use Rattle.table_bed.proofs.read_bed.Goals as goal

pub returns : goal.returns
returns c = rows_read c.args.text.now _ _ _ c.args.table.now c.store_rows.new.rows c.rows_filled-count.result c.read_columns-answer.result c.read_columns-answer.ensures c.rows_filled-count.ensures c.store_rows.ensures
