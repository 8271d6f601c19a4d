-- The text's line and a feed, if there is room. Assumes nothing.
use Rattle.entries.proofs.WriteLaws.{line_part, line_copied}
use Rattle.entries.proofs.copy_line.Goals as goal

pub slice_bounds-write_fed-end : goal.slice_bounds-write_fed-end
slice_bounds-write_fed-end c = search line_part

pub returns : goal.returns
returns c = search line_copied
