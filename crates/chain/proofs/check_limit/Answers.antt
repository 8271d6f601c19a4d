-- The limit, reached or ahead. Assumes nothing.
use Rattle.chain.proofs.BlockLaws.{limit_reached, limit_ahead}
use Rattle.chain.proofs.check_limit.Goals as goal

pub returns-then-left-eq0 : goal.returns-then-left-eq0
returns-then-left-eq0 c = search limit_reached

pub returns : goal.returns
returns c = search limit_ahead
