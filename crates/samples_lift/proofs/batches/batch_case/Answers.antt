use Rattle.samples_lift.proofs.PartLaws.{part_of_all}
use Rattle.samples_lift.proofs.batches.batch_case.Goals as goal

pub slice_bounds-send_batch-end : goal.slice_bounds-send_batch-end
slice_bounds-send_batch-end c = search part_of_all

pub slice_bounds-send_batch-end-2 : goal.slice_bounds-send_batch-end-2
slice_bounds-send_batch-end-2 c = search part_of_all
