-- The number at the word's first byte. Assumes nothing.
use Rattle.columns.proofs.WalkLaws.{taken_number}
use Rattle.columns.proofs.take_number.Goals as goal

pub returns : goal.returns
returns c = search (taken_number, c.in_ok-x.was)
