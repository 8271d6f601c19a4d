-- With `-` the rows go from the last. Assumes nothing.
use Rattle.turn.proofs.FillLaws.{source_turned}
use borrow.Author.Rules.{rules}
use Rattle.turn.proofs.source_of.Goals as goal

pub returns-in-Minus : goal.returns-in-Minus
returns-in-Minus c = (search source_turned, search rules)
