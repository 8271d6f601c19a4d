use Rattle.lift.proofs.InsideLaws.{outside_low, inside_is}
use Rattle.lift.proofs.in_block.Goals as goal

pub returns-then-p-start : goal.returns-then-p-start
returns-then-p-start c = record { is = search outside_low }

pub returns : goal.returns
returns c = record { is = search inside_is }
