-- The number of words decides. Assumes nothing.
use Rattle.bed.proofs.ReadLaws.{there_is, left_is}
use Rattle.bed.proofs.if_there.Goals as goal

pub returns-then-k-n : goal.returns-then-k-n
returns-then-k-n c = search there_is

pub returns-else-k-n : goal.returns-else-k-n
returns-else-k-n c = search left_is
