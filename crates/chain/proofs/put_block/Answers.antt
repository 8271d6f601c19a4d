-- The table's columns are a block line's first n. Assumes nothing.
use Rattle.chain.proofs.BlockLaws.{front_length}
use Rattle.chain.proofs.WriteLaws.{block_put}
use Rattle.chain.proofs.put_block.Goals as goal

pub slice_bounds-put_line-end : goal.slice_bounds-put_line-end
slice_bounds-put_line-end c = search front_length

pub returns : goal.returns
returns c = search block_put
