-- The tests from the left. Assumes nothing.
use Rattle.region.proofs.TallyLaws.{asked_below, admit_outside, admit_bad, admit_full, admit_good}
use Rattle.region.proofs.SearchLaws.{inside_order}
use Rattle.region.proofs.admit.Goals as goal

pub returns-then-outside : goal.returns-then-outside
returns-then-outside c = search admit_outside

pub returns-then-not-is_good : goal.returns-then-not-is_good
returns-then-not-is_good c = search admit_bad

pub overflow_sub-len : goal.overflow_sub-len
overflow_sub-len c = search inside_order

pub overflow_sub-tally : goal.overflow_sub-tally
overflow_sub-tally c = search asked_below

pub returns-then-tally-len : goal.returns-then-tally-len
returns-then-tally-len c = search admit_full

pub returns : goal.returns
returns c = search admit_good
