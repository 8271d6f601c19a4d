-- No byte, a line feed at the end, or none. Assumes nothing.
use Rattle.number_line.proofs.ReadLaws.{feedless_none, feedless_fed, feedless_open}
use Rattle.number_line.proofs.feedless_length.Goals as goal

pub returns-then-n-eq0 : goal.returns-then-n-eq0
returns-then-n-eq0 c = search feedless_none

pub returns-then-text-n-eq10 : goal.returns-then-text-n-eq10
returns-then-text-n-eq10 c = search feedless_fed

pub returns-else-text-n-eq10 : goal.returns-else-text-n-eq10
returns-else-text-n-eq10 c = search feedless_open
