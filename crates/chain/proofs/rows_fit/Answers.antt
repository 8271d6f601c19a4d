-- Both sides. Assumes nothing.
use Rattle.chain.proofs.TestLaws.{rows_are}
use Rattle.chain.proofs.rows_fit.Goals as goal

pub returns : goal.returns
returns c = search rows_are
