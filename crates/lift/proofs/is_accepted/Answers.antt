use Rattle.lift.proofs.AcceptLaws.{accepted_if}
use Rattle.lift.proofs.is_accepted.Goals as goal

pub returns : goal.returns
returns c = search accepted_if
