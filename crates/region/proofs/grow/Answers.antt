-- Assumes nothing.
use Rattle.region.proofs.TallyLaws.{grow_is}
use Rattle.region.proofs.grow.Goals as goal

pub returns : goal.returns
returns c = search grow_is
