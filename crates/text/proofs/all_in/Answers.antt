-- The bytes passed and those from here on are of the class exactly when all are. Assumes nothing.
use Rattle.text.proofs.Laws.{all_more, all_done}
use Rattle.text.proofs.all_in.Goals as goal

pub loop-b-preserved : goal.loop-b-preserved
loop-b-preserved c = search all_more

pub returns : goal.returns
returns c = search all_done
