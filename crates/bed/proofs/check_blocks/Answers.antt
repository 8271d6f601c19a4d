-- The starts stand after the sizes in the working room. Assumes nothing.
use Rattle.bed.proofs.ReadLaws.{blocks_checked}
use Rattle.bed.proofs.check_blocks.Goals as goal

pub returns : goal.returns
returns c = search blocks_checked
