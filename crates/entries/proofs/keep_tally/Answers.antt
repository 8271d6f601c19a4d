-- Too few bytes, or three numbers written. Assumes nothing.
use Rattle.entries.proofs.BatchLaws.{tally_none, tally_some}
use Rattle.entries.proofs.keep_tally.Goals as goal

pub returns-then-lent : goal.returns-then-lent
returns-then-lent c = search tally_none

pub returns : goal.returns
returns c = search tally_some
