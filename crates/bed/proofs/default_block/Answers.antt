-- Two stores, where the block columns are left out. Assumes nothing.
use Rattle.bed.proofs.ReadLaws.{block_given, block_default}
use Rattle.bed.proofs.default_block.Goals as goal

pub returns-then-r : goal.returns-then-r
returns-then-r c = search (block_given, block_default)

pub returns : goal.returns
returns c = search block_default
