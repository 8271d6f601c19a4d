-- From the first kept base to the last. Assumes nothing.
use Rattle.region.proofs.SearchLaws.{first_fits, last_fits, inner_fits, from_below, reached_across}
use Rattle.region.proofs.reach_across.Goals as goal

pub overflow_add-first : goal.overflow_add-first
overflow_add-first c = search first_fits

pub overflow_add-last : goal.overflow_add-last
overflow_add-last c = search last_fits

pub overflow_add-result : goal.overflow_add-result
overflow_add-result c = search inner_fits

pub overflow_sub-result : goal.overflow_sub-result
overflow_sub-result c = search from_below

pub returns : goal.returns
returns c = search reached_across
