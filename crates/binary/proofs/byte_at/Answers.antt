-- Past the end there is no byte. Assumes nothing.
use Rattle.binary.proofs.ByteLaws.{byte_past, byte_far}
use Rattle.binary.proofs.byte_at.Goals as goal

pub returns-then-bytes-at : goal.returns-then-bytes-at
returns-then-bytes-at c = search byte_past

pub returns-then-bytes-at-2 : goal.returns-then-bytes-at-2
returns-then-bytes-at-2 c = search byte_far
