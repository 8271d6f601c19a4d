use Rattle.samples_lift.proofs.PartLaws.{part_within}
use Rattle.samples_lift.proofs.batches.put_batch.Goals as goal

pub slice_bounds-put_answers-end : goal.slice_bounds-put_answers-end
slice_bounds-put_answers-end c = search part_within
