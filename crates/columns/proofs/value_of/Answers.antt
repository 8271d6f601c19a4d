-- Past the end a number reads as 0. Assumes nothing.
use Rattle.columns.proofs.LineLaws.{value_past, value_short, value_is}
use Rattle.columns.proofs.value_of.Goals as goal

pub returns-then-n-k : goal.returns-then-n-k
returns-then-n-k c = search value_past

pub returns-then-n-k-2 : goal.returns-then-n-k-2
returns-then-n-k-2 c = search value_short

pub returns : goal.returns
returns c = search value_is
