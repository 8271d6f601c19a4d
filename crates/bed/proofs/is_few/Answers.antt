-- Two tests. Assumes nothing.
use Rattle.bed.proofs.ColumnLaws.{few_is}
use Rattle.bed.proofs.is_few.Goals as goal

pub returns : goal.returns
returns c = search few_is
