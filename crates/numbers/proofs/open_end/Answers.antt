use Rattle.numbers.proofs.ListLaws.{open_is}
use Rattle.numbers.proofs.open_end.Goals as goal

pub returns : goal.returns
returns c = search open_is
