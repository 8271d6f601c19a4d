-- Lengths, then bytes. Assumes nothing.
use Rattle.chain.proofs.TestLaws.{shown_are}
use Rattle.chain.proofs.names_show.Goals as goal

pub returns : goal.returns
returns c = search shown_are
