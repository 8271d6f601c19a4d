-- The table holds the rows of the columns. Assumes nothing.
use Rattle.std.proofs.Common.{replicate}
use Rattle.std.proofs.Math.ListN.{length-replicate}
use Rattle.cases_chain.specs.Tables.{table_limit}
use Rattle.cases_chain.proofs.TableLaws.{table_wrote}
use Rattle.cases_chain.proofs.write_chain.Goals as goal

pub returns : goal.returns
returns c = table_wrote c.table_rows-n.result c.args.targets.now c.args.queries.now c.args.sizes.now (replicate table_limit c.row_mark-mark.result) c.store_rows.new.rows c.table_rows-n.ensures (length-replicate table_limit c.row_mark-mark.result) c.store_rows.ensures c.args.r c.args.tName.now c.args.qName.now c.args.buf.now c.write_chain.new.buf c.write_chain.result c.write_chain.ensures
