-- The reader with room for any record's blocks. Assumes nothing.
use Rattle.entries.proofs.StageLaws.{bed_staged}
use Rattle.entries.proofs.stage_bed.Goals as goal

pub returns : goal.returns
returns c = search bed_staged
