-- The quick way's finding is the stages', where there is one. Assumes nothing.
use Rattle.bed.proofs.ColumnLaws.{quick_is}
use Rattle.bed.proofs.check_any.Goals as goal

pub returns-in-Some : goal.returns-in-Some
returns-in-Some c = search (quick_is, c.in-Some.is)
