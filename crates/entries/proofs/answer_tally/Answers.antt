-- The tally's step. Assumes nothing.
use Rattle.answers.proofs.AnswerLaws.{part_count}
use Rattle.entries.proofs.TallyLaws.{tally_room, tally_step_lem}
use Rattle.entries.proofs.answer_tally.Goals as goal

pub slice_bounds-tally_step-end : goal.slice_bounds-tally_step-end
slice_bounds-tally_step-end c = search part_count

pub slice_bounds-tally_step-end-2 : goal.slice_bounds-tally_step-end-2
slice_bounds-tally_step-end-2 c = search part_count

pub slice_bounds-tally_step-end-3 : goal.slice_bounds-tally_step-end-3
slice_bounds-tally_step-end-3 c = search part_count

pub answer_tallied-requires : goal.answer_tallied-requires
answer_tallied-requires c = search tally_room

pub returns : goal.returns
returns c = search tally_step_lem
