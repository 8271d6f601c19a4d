-- A size alone is the last. Assumes nothing.
use Rattle.chain.proofs.ReadLaws.{block_last, block_gap}
use Rattle.chain.proofs.block_of.Goals as goal

pub returns-then-n-eq-LAST_COLUMNS : goal.returns-then-n-eq-LAST_COLUMNS
returns-then-n-eq-LAST_COLUMNS c = search block_last

pub returns : goal.returns
returns c = search block_gap
