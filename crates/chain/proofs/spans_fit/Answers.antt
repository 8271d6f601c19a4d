-- Both spans. Assumes nothing.
use Rattle.chain.proofs.TestLaws.{spans_are}
use Rattle.chain.proofs.spans_fit.Goals as goal

pub returns : goal.returns
returns c = search spans_are
