-- A tab, a line feed, any other byte. Assumes nothing.
use Rattle.cases.proofs.CaseLaws.{shown_tab, shown_feed, shown_self}
use Rattle.cases.proofs.puts.put_shown_byte.Goals as goal

pub returns-then-b-eq9 : goal.returns-then-b-eq9
returns-then-b-eq9 c = search shown_tab

pub returns-then-b-eq10 : goal.returns-then-b-eq10
returns-then-b-eq10 c = search shown_feed

pub returns : goal.returns
returns c = search shown_self
