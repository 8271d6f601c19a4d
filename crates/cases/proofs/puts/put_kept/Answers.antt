-- Nothing is told of room that was kept. Assumes nothing.
use Rattle.cases.proofs.CaseLaws.{kept_true, kept_false}
use Rattle.cases.proofs.puts.put_kept.Goals as goal

pub shape_of-out-then-kept : goal.shape_of-out-then-kept
shape_of-out-then-kept c = search kept_true

pub returns : goal.returns
returns c = search kept_false
