-- The table holds the rows of the columns. Assumes nothing.
use Rattle.std.proofs.Common.{replicate}
use Rattle.std.proofs.Math.ListN.{length-replicate}
use Rattle.cases_chain.specs.Tables.{table_limit}
use Rattle.cases_chain.proofs.LiftLaws.{position_lifted_lem}
use Rattle.cases_chain.proofs.lift_position.Goals as goal

pub returns : goal.returns
returns c = position_lifted_lem c.table_rows-n.result c.args.targets.now c.args.queries.now c.args.sizes.now (replicate table_limit c.row_mark-mark.result) c.store_rows.new.rows c.table_rows-n.ensures (length-replicate table_limit c.row_mark-mark.result) c.store_rows.ensures c.args.c c.args.p c.lift_position.result c.lift_position.ensures
