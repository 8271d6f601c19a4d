-- Each way out is one of the definition. Assumes nothing.
use Rattle.lift.proofs.AcceptLaws.{ready_if}
use Rattle.region.proofs.BatchLaws.{batch_refused, batch_answered, batch_not_accepted}
use borrow.Author.Rules.{rules}
use Rattle.region.proofs.tally_batch.Goals as goal

pub returns-then-answers-regions : goal.returns-then-answers-regions
returns-then-answers-regions c = search batch_refused

pub returns-then-not-is_accepted : goal.returns-then-not-is_accepted
returns-then-not-is_accepted c = search batch_not_accepted

pub answer_ready-after-requires : goal.answer_ready-after-requires
answer_ready-after-requires c = (search ready_if, search rules)

pub returns : goal.returns
returns c = search batch_answered
