-- The quick way's finding and its rows, where there is one. Assumes nothing.
use Rattle.bed.proofs.read_any.Goals as goal

pub hand_over-requires : goal.hand_over-requires
hand_over-requires c = c.quick.ensures.staged _ c.in-Some.is
