-- Both names. Assumes nothing.
use Rattle.chain.proofs.TestLaws.{names_are}
use Rattle.chain.proofs.names_fit.Goals as goal

pub returns : goal.returns
returns c = search names_are
