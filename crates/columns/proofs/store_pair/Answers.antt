-- Two stores. Assumes nothing.
use Rattle.columns.proofs.ReadLaws.{pair_stored}
use Rattle.columns.proofs.store_pair.Goals as goal

pub returns : goal.returns
returns c = search pair_stored
