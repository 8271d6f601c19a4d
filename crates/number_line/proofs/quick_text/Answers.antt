-- The line of a text that is not over the limit. Assumes nothing.
use Rattle.number_line.proofs.ReadLaws.{feedless_count, quick_whole}
use Rattle.number_line.proofs.quick_text.Goals as goal

pub slice_bounds-quick_line-end : goal.slice_bounds-quick_line-end
slice_bounds-quick_line-end c = search feedless_count

pub returns : goal.returns
returns c = search quick_whole
