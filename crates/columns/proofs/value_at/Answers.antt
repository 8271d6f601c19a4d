-- Past the end a value reads as 0. Assumes nothing.
use Rattle.columns.proofs.LineLaws.{value_none}
use Rattle.columns.proofs.value_at.Goals as goal

pub returns-else-i-values : goal.returns-else-i-values
returns-else-i-values c = search value_none
