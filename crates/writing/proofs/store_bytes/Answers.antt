-- Storing the bytes that are left makes the whole. Assumes nothing.
use Rattle.writing.proofs.StoreLaws.{storing_starts, storing_step, storing_ends}
use Rattle.writing.proofs.store_bytes.Goals as goal

pub loop-i-init : goal.loop-i-init
loop-i-init c = search storing_starts

pub loop-i-preserved : goal.loop-i-preserved
loop-i-preserved c = search storing_step

pub returns : goal.returns
returns c = search storing_ends
