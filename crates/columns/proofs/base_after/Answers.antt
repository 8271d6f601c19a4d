-- A list takes a record's room of blocks. Assumes nothing.
use Rattle.ledger.specs.Limits.{block_limit}
use Rattle.columns.proofs.ReadLaws.{base_list, base_other}
use borrow.Author.Rules.{rules}
use Rattle.columns.proofs.base_after.Goals as goal

pub returns-then-is_list : goal.returns-then-is_list
returns-then-is_list c = (base_list block_limit c.args.kind _ c.is_list.ensures _ c.if-is_list.true, search rules)

pub returns-else-is_list : goal.returns-else-is_list
returns-else-is_list c = (base_other block_limit c.args.kind _ c.is_list.ensures _ c.if-is_list.false, search rules)
