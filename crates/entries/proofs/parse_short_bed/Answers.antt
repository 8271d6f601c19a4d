-- The rows of few blocks, or the long way. Assumes nothing.
use Rattle.entries.proofs.QuickLaws.{parse_few_accepted}
use Rattle.entries.proofs.parse_short_bed.Goals as goal

pub returns-in-Ok : goal.returns-in-Ok
returns-in-Ok c = search parse_few_accepted
