-- The size and the two gaps. Assumes nothing.
use Rattle.chain.proofs.WriteLaws.{gap_put}
use Rattle.chain.proofs.put_gap.Goals as goal

pub returns : goal.returns
returns c = search gap_put
