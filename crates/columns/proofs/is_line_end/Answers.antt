-- The text's end, or a line feed. Assumes nothing.
use Rattle.columns.proofs.QuickLaws.{line_over, line_feeds}
use Rattle.columns.proofs.is_line_end.Goals as goal

pub returns-then-text-at : goal.returns-then-text-at
returns-then-text-at c = search line_over

pub returns : goal.returns
returns c = search line_feeds
