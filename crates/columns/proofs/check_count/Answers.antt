-- The line's own number of words. Assumes nothing.
use Rattle.columns.proofs.OneLineLaws.{count_checked}
use Rattle.columns.proofs.check_count.Goals as goal

pub returns : goal.returns
returns c = search count_checked
