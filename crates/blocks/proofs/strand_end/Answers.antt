-- Each strand by its case. Assumes nothing.
use Rattle.blocks.proofs.strand_end.Goals as goal

pub returns-in-Minus : goal.returns-in-Minus
returns-in-Minus c = rw c.in-Minus.is c.saturating_sub.ensures
