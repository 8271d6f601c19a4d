-- Past the end a byte reads as 0. Assumes nothing.
use Rattle.columns.proofs.LineLaws.{value_none}
use Rattle.cases.proofs.byte_at.Goals as goal

pub returns-else-i-s : goal.returns-else-i-s
returns-else-i-s c = search value_none
