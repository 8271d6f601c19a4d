use Rattle.region.proofs.ReachLaws.{answer_none, answer_some}
use Rattle.region.proofs.answer_of.Goals as goal

pub returns-then-r-eq0 : goal.returns-then-r-eq0
returns-then-r-eq0 c = search answer_none

pub returns : goal.returns
returns c = search answer_some
