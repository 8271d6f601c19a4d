-- The flag decides. Assumes nothing.
use Rattle.kinds.proofs.SpellLaws.{whole_good, whole_bad}
use Rattle.kinds.proofs.whole.Goals as goal

pub returns-then-good : goal.returns-then-good
returns-then-good c = search (whole_good, whole_bad)

pub returns-else-good : goal.returns-else-good
returns-else-good c = search (whole_good, whole_bad)
