-- The scan reaches the end. Assumes nothing.
use Rattle.columns.proofs.all_graphic.Goals as goal

pub returns : goal.returns
returns c = rw c.scan.ensures.is
