-- Written where the region was lifted or has no pair, else left. Assumes nothing.
use Rattle.entries.proofs.TallyLaws.{tally_lifted, tally_alone, tally_left}
use Rattle.entries.proofs.answer_tallied.Goals as goal

pub returns-then-number : goal.returns-then-number
returns-then-number c = search tally_alone

pub returns-in-Ok : goal.returns-in-Ok
returns-in-Ok c = search tally_lifted

pub returns-else-number : goal.returns-else-number
returns-else-number c = search tally_left
