-- Fewer than three numbers, or three. Assumes nothing.
use Rattle.entries.proofs.TallyLaws.{tally_short, tally_read}
use Rattle.entries.proofs.tally_of.Goals as goal

pub returns-then-lent : goal.returns-then-lent
returns-then-lent c = search tally_short

pub returns : goal.returns
returns c = search tally_read
