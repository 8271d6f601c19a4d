-- A table is filled from the columns, and another is copied out to columns. Assumes nothing.
use Rattle.std.proofs.Common.{replicate}
use Rattle.std.proofs.Math.ListN.{length-replicate}
use mathlib.Core.Path.{◌≡◌}
use lib.ListN.{length}
use Rattle.ledger.specs.Limits.{block_limit}
use Rattle.cases_chain.specs.Tables.{table_limit}
use Rattle.cases_chain.proofs.LiftLaws.{table_turned}
use Rattle.cases_chain.proofs.TableLaws.{whole_length}
use Rattle.cases_chain.proofs.turn_chain.Goals as goal

pub returns : goal.returns
returns c =
    let long : length (replicate block_limit c.row_mark-mark.result) ≡ block_limit = length-replicate block_limit c.row_mark-mark.result in
    table_turned c.args.c c.table_rows-n.result c.args.targets.now c.args.queries.now c.args.sizes.now (replicate table_limit c.row_mark-mark.result) c.store_rows.new.rows c.table_rows-n.ensures (length-replicate table_limit c.row_mark-mark.result) c.store_rows.ensures c.args.room c.staged_rows-m.result (replicate block_limit c.row_mark-mark.result) c.turn_chain-answer.new.turned c.args.newTargets.now c.load_rows.new.targets c.args.newQueries.now c.load_rows.new.queries c.args.newSizes.now c.load_rows.new.sizes c.turn_chain-answer.result c.staged_rows-m.ensures long c.turn_chain-answer.ensures (whole_length c.staged_rows-m.result c.args.room (replicate block_limit c.row_mark-mark.result) c.turn_chain-answer.new.turned c.staged_rows-m.ensures long c.turn_chain-answer.auto.turned) c.load_rows.ensures c.load_rows.auto.targets c.load_rows.auto.queries c.load_rows.auto.sizes
