-- The line's end, or a blank. Assumes nothing.
use Rattle.number_line.proofs.ReadLaws.{gap_past, gap_byte}
use Rattle.number_line.proofs.is_gap.Goals as goal

pub returns-then-line-i : goal.returns-then-line-i
returns-then-line-i c = search gap_past

pub returns : goal.returns
returns c = search gap_byte
