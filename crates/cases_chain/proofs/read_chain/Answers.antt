-- The rows that were read are copied out to the columns. Assumes nothing.
use Rattle.std.proofs.Common.{replicate}
use Rattle.std.proofs.Math.ListN.{length-replicate}
use mathlib.Core.Path.{◌≡◌}
use lib.ListN.{length}
use Rattle.ledger.specs.Limits.{block_limit}
use Rattle.cases_chain.proofs.TableLaws.{table_read, whole_length}
use Rattle.cases_chain.proofs.read_chain.Goals as goal

pub returns : goal.returns
returns c =
    let long : length (replicate block_limit c.row_mark-mark.result) ≡ block_limit = length-replicate block_limit c.row_mark-mark.result in
    table_read c.args.text.now c.args.room c.staged_rows-n.result (replicate block_limit c.row_mark-mark.result) c.read_chain-answer.new.table c.args.targets.now c.load_rows.new.targets c.args.queries.now c.load_rows.new.queries c.args.sizes.now c.load_rows.new.sizes c.read_chain-answer.result c.staged_rows-n.ensures long c.read_chain-answer.ensures (whole_length c.staged_rows-n.result c.args.room (replicate block_limit c.row_mark-mark.result) c.read_chain-answer.new.table c.staged_rows-n.ensures long c.read_chain-answer.auto.table) c.load_rows.ensures c.load_rows.auto.targets c.load_rows.auto.queries c.load_rows.auto.sizes
