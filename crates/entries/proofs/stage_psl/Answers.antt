-- The reader with room for any record's blocks. Assumes nothing.
use Rattle.entries.proofs.StageLaws.{psl_staged}
use Rattle.entries.proofs.stage_psl.Goals as goal

pub returns : goal.returns
returns c = search psl_staged
