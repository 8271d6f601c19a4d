-- The lines from row i on complete the text. Assumes nothing.
use Rattle.chain.proofs.WriteLaws.{lines_step, lines_done}
use Rattle.chain.proofs.put_blocks.Goals as goal

pub loop-i-preserved : goal.loop-i-preserved
loop-i-preserved c = search lines_step

pub returns : goal.returns
returns c = search lines_done
