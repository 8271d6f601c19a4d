-- The rows after the fields. Assumes nothing.
use Rattle.answers.proofs.AnswerLaws.{part_count, record_stored}
use Rattle.answers.proofs.put_record.Goals as goal

pub slice_bounds-put_rows-end : goal.slice_bounds-put_rows-end
slice_bounds-put_rows-end c = search part_count

pub slice_bounds-put_rows-end-2 : goal.slice_bounds-put_rows-end-2
slice_bounds-put_rows-end-2 c = search part_count

pub slice_bounds-put_rows-end-3 : goal.slice_bounds-put_rows-end-3
slice_bounds-put_rows-end-3 c = search part_count

pub returns : goal.returns
returns c = search record_stored
