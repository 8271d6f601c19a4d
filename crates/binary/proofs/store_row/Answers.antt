-- Three words one after the other. Assumes nothing.
use Rattle.binary.proofs.WordLaws.{row_stored}
use Rattle.binary.proofs.store_row.Goals as goal

pub returns : goal.returns
returns c = search row_stored
