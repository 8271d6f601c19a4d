-- The reader with room for any record's blocks. Assumes nothing.
use Rattle.entries.proofs.StageLaws.{chain_staged}
use Rattle.entries.proofs.stage_chain.Goals as goal

pub returns : goal.returns
returns c = search chain_staged
