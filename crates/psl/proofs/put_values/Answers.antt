-- Storing the rest from here on completes storing all of them. Assumes nothing.
use Rattle.psl.proofs.WriteLaws.{value_more, values_done}
use Rattle.psl.proofs.put_values.Goals as goal

pub loop-k-preserved : goal.loop-k-preserved
loop-k-preserved c = search value_more

pub returns : goal.returns
returns c = search values_done
