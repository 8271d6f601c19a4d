-- The parts of the working room. Assumes nothing.
use Rattle.answers.proofs.AnswerLaws.{part_count}
use Rattle.entries.proofs.StageLaws.{room_front}
use Rattle.entries.proofs.answer_lists.Goals as goal

pub slice_bounds-answer_record-end-3 : goal.slice_bounds-answer_record-end-3
slice_bounds-answer_record-end-3 c = search (room_front, part_count)
