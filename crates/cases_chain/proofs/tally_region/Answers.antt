-- The table holds the rows of the columns, and the tally is lent. Assumes nothing.
use Rattle.std.proofs.Common.{replicate}
use Rattle.std.proofs.Math.ListN.{length-replicate}
use Rattle.cases_chain.specs.Tables.{table_limit}
use Rattle.cases_chain.proofs.LiftLaws.{region_counted}
use Rattle.cases_chain.proofs.tally_region.Goals as goal

pub returns : goal.returns
returns c = region_counted c.table_rows-n.result c.args.targets.now c.args.queries.now c.args.sizes.now (replicate table_limit c.row_mark-mark.result) c.store_rows.new.rows c.table_rows-n.ensures (length-replicate table_limit c.row_mark-mark.result) c.store_rows.ensures c.args.c c.args.tally c.tally_region-answer.new.tally c.args.start c.args.end c.tally_region-answer.result c.tallied.result c.tally_region-answer.ensures c.tallied.ensures
