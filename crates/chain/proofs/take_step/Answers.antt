-- A plain line, or any other. Assumes nothing.
use Rattle.chain.proofs.QuickLaws.{step_gap, step_last}
use Rattle.chain.proofs.take_step.Goals as goal

pub returns-in-Some : goal.returns-in-Some
returns-in-Some c = search (step_gap, c.in-Some.is)

pub returns-in-Some-quick_last : goal.returns-in-Some-quick_last
returns-in-Some-quick_last c = search (step_last, c.in-Some-quick_last.is)
