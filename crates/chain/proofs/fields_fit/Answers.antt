-- Each number in its range. Assumes nothing.
use Rattle.chain.proofs.TestLaws.{fields_are}
use Rattle.chain.proofs.fields_fit.Goals as goal

pub returns : goal.returns
returns c = search fields_are
