-- `text::scan` meets its contract: the place where a scan from here ends is that of the scan from the start. Assumes nothing.
use Rattle.text.proofs.Laws.{scan_found, scan_more, scan_past}
use borrow.Author.Rules.{rules}
use Rattle.text.proofs.scan.Goals as goal

pub returns-then-not-is_in : goal.returns-then-not-is_in
returns-then-not-is_in c = record { is = search scan_found; low = search rules; high = search rules }

pub loop-i-preserved : goal.loop-i-preserved
loop-i-preserved c = (search rules, search scan_more)

pub returns : goal.returns
returns c = record { is = search scan_past; low = search rules; high = search rules }
