-- From the highest byte down. Assumes nothing.
use Rattle.binary.proofs.ByteLaws.{reading_step, times_fits, sum_fits, reading_starts, reading_ends}
use Rattle.binary.proofs.low_at.Goals as goal

pub loop-left-init : goal.loop-left-init
loop-left-init c = search reading_starts

pub overflow_mul-n : goal.overflow_mul-n
overflow_mul-n c = search times_fits

pub overflow_add-n : goal.overflow_add-n
overflow_add-n c = search sum_fits

pub loop-left-preserved : goal.loop-left-preserved
loop-left-preserved c = search reading_step

pub returns : goal.returns
returns c = search reading_ends
