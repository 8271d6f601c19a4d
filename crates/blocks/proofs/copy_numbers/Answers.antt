-- The copied front and the rest are what storing number by number leaves. Assumes nothing.
use borrow.Author.Rules.{rules}
use Rattle.blocks.proofs.BlockLaws.{copied}
use Rattle.blocks.proofs.copy_numbers.Goals as goal

pub returns : goal.returns
returns c = copied c.args.from.now c.args.count _ _ c.args.to.now _ c.min.ensures c.min-n.ensures (search rules)
