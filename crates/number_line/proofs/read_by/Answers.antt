-- The quick way where it counts numbers, else the walk. Assumes nothing.
use Rattle.number_line.proofs.ReadLaws.{handed_read}
use Rattle.number_line.proofs.read_by.Goals as goal

pub slice_bounds-hand_over-end : goal.slice_bounds-hand_over-end
slice_bounds-hand_over-end c = c.quick_text.ensures.few _ c.in-Some.is

pub returns-in-Some : goal.returns-in-Some
returns-in-Some c = search (handed_read, c.in-Some.is)
