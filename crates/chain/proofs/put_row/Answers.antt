-- Three stores, one after the other. Assumes nothing.
use Rattle.chain.proofs.ReadLaws.{row_put}
use Rattle.chain.proofs.put_row.Goals as goal

pub returns : goal.returns
returns c = search row_put
