-- `text::part_in` meets its contract: each return is one case of where the part lies. Assumes nothing.
use borrow.Author.Rules.{rules}
use Rattle.text.proofs.Laws.{part_past, part_long, part_fits}
use Rattle.text.proofs.part_in.Goals as goal

pub returns-then-n-part : goal.returns-then-n-part
returns-then-n-part c = record { is = search part_past; inside = search rules }

pub returns-then-n-part-2 : goal.returns-then-n-part-2
returns-then-n-part-2 c = record { is = search part_long; inside = search rules }

pub returns : goal.returns
returns c = record { is = search part_fits; inside = search rules }
