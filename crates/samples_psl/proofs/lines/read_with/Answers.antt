-- Each slice cut to the room. Assumes nothing.
use Rattle.cases.proofs.PartLaws.{first_count}
use Rattle.samples_psl.proofs.lines.read_with.Goals as goal

pub slice_bounds-read_psl-end-2 : goal.slice_bounds-read_psl-end-2
slice_bounds-read_psl-end-2 c = search first_count

pub slice_bounds-read_psl-end-4 : goal.slice_bounds-read_psl-end-4
slice_bounds-read_psl-end-4 c = search first_count

pub slice_bounds-read_psl-end-6 : goal.slice_bounds-read_psl-end-6
slice_bounds-read_psl-end-6 c = search first_count
