-- The parts of the working room. Assumes nothing.
use Rattle.answers.proofs.AnswerLaws.{part_count}
use Rattle.entries.proofs.StageLaws.{room_front}
use Rattle.entries.proofs.answer_rows.Goals as goal

pub slice_bounds-answer_record-end : goal.slice_bounds-answer_record-end
slice_bounds-answer_record-end c = search (room_front, part_count)
