-- `text::next_line` meets its contract: its two returns are the two cases of the definition. Assumes nothing.
use Rattle.text.proofs.Laws.{next_fed, next_none}
use Rattle.text.proofs.next_line.Goals as goal

pub returns-then-e-text : goal.returns-then-e-text
returns-then-e-text c = search next_fed

pub returns-else-e-text : goal.returns-else-e-text
returns-else-e-text c = search next_none
