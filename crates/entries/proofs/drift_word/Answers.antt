-- Below 0, or not. Assumes nothing.
use Rattle.entries.proofs.LiftLaws.{drift_below, drift_above}
use Rattle.entries.proofs.drift_word.Goals as goal

pub returns-then-partner-position : goal.returns-then-partner-position
returns-then-partner-position c = search drift_below

pub returns : goal.returns
returns c = search drift_above
