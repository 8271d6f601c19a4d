-- A column past the number of words has its default. Assumes nothing.
use Rattle.bed.proofs.ReadLaws.{place_there, place_left}
use Rattle.bed.proofs.place_or.Goals as goal

pub returns-then-k-n : goal.returns-then-k-n
returns-then-k-n c = search place_there

pub returns : goal.returns
returns c = search place_left
