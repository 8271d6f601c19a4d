-- Where the word starts, and its length. Assumes nothing.
use Rattle.chain.proofs.ReadLaws.{name_is}
use Rattle.chain.proofs.name_of.Goals as goal

pub returns : goal.returns
returns c = search name_is
