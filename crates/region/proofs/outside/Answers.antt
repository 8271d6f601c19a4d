-- Assumes nothing.
use Rattle.region.proofs.SearchLaws.{outside_is}
use Rattle.region.proofs.outside.Goals as goal

pub returns : goal.returns
returns c = search outside_is
