-- The two columns, then the rows. Assumes nothing.
use Rattle.region.proofs.SearchLaws.{layable, summable}
use borrow.Author.Rules.{rules}
use Rattle.region.proofs.put_ready.Goals as goal

pub lay_starts-requires : goal.lay_starts-requires
lay_starts-requires c = (search layable, search rules)

pub sum_sizes-requires : goal.sum_sizes-requires
sum_sizes-requires c = (search summable, search rules)
