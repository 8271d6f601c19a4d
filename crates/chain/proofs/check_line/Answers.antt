-- The limit comes before the number of words. Assumes nothing.
use Rattle.chain.proofs.BlockLaws.{line_checked}
use Rattle.chain.proofs.check_line.Goals as goal

pub returns : goal.returns
returns c = search line_checked
