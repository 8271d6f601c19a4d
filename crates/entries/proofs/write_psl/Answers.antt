-- The writer's text and its answer. Assumes nothing.
use Rattle.answers.proofs.AnswerLaws.{part_count}
use Rattle.entries.proofs.WriteLaws.{psl_written_lem}
use Rattle.entries.proofs.write_psl.Goals as goal

pub slice_bounds-write_psl-end : goal.slice_bounds-write_psl-end
slice_bounds-write_psl-end c = search part_count

pub slice_bounds-write_psl-end-2 : goal.slice_bounds-write_psl-end-2
slice_bounds-write_psl-end-2 c = search part_count

pub slice_bounds-write_psl-end-3 : goal.slice_bounds-write_psl-end-3
slice_bounds-write_psl-end-3 c = search part_count

pub returns : goal.returns
returns c = search psl_written_lem
