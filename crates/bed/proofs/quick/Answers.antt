-- A short text that may hold its bytes. Assumes nothing.
use Rattle.bed.proofs.ColumnLaws.{quick_short}
use Rattle.bed.proofs.quick.Goals as goal

pub returns : goal.returns
returns c = search (quick_short, c.ok.ensures.value, c.in_ok-ok.was)
