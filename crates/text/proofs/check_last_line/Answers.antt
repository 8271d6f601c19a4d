-- A line after the last one begins inside the text. Assumes nothing.
use Rattle.text.proofs.Laws.{line_surplus, line_last}
use Rattle.text.proofs.check_last_line.Goals as goal

pub returns-then-next-text : goal.returns-then-next-text
returns-then-next-text c = search (line_surplus, line_last)

pub returns : goal.returns
returns c = search (line_surplus, line_last)
