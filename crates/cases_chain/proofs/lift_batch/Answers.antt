-- The table holds the rows of the columns, and the tally is lent. Assumes nothing.
use Rattle.std.proofs.Common.{replicate}
use Rattle.std.proofs.Math.ListN.{length-replicate}
use Rattle.cases_chain.specs.Tables.{table_limit}
use Rattle.cases_chain.proofs.LiftLaws.{batch_counted}
use Rattle.cases_chain.proofs.lift_batch.Goals as goal

pub returns : goal.returns
returns c = batch_counted c.table_rows-n.result c.args.targets.now c.args.queries.now c.args.sizes.now (replicate table_limit c.row_mark-mark.result) c.store_rows.new.rows c.table_rows-n.ensures (length-replicate table_limit c.row_mark-mark.result) c.store_rows.ensures c.args.c c.args.tally c.lift_batch-check.new.tally c.args.regions.now c.args.answers.now c.lift_batch-check.new.answers c.lift_batch-check.result c.batched.result c.lift_batch-check.ensures c.batched.ensures
