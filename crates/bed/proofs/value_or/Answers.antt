-- A column past the number of words has its default. Assumes nothing.
use Rattle.bed.proofs.ReadLaws.{value_there, value_left}
use Rattle.bed.proofs.value_or.Goals as goal

pub returns-then-k-n : goal.returns-then-k-n
returns-then-k-n c = search value_there

pub returns : goal.returns
returns c = search value_left
