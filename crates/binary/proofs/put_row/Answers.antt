-- Three numbers one after the other. Assumes nothing.
use Rattle.binary.proofs.ByteLaws.{row_put}
use Rattle.binary.proofs.put_row.Goals as goal

pub returns : goal.returns
returns c = search row_put
