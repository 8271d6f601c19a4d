-- `text::line_end` meets its contract: a line's end is where the scan over its bytes stops. Assumes nothing.
use borrow.Author.Rules.{rules}
use Rattle.text.specs.Words.{line_end}
use Rattle.text.proofs.line_end.Goals as goal

pub returns : goal.returns
unfolding line_end
returns c = record { is = c.scan_far.ensures.is; low = search rules; high = search rules }
