use Rattle.region.proofs.TallyLaws.{kept_over, dropped_over, asked_tested}
use Rattle.region.proofs.is_good.Goals as goal

pub returns-then-most-t : goal.returns-then-most-t
returns-then-most-t c = search kept_over

pub returns-then-most-t-2 : goal.returns-then-most-t-2
returns-then-most-t-2 c = search dropped_over

pub returns : goal.returns
returns c = search asked_tested
