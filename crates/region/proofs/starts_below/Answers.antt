-- Assumes nothing.
use Rattle.region.proofs.SearchLaws.{below_is}
use Rattle.region.proofs.starts_below.Goals as goal

pub returns : goal.returns
returns c = search below_is
