-- Each way out is one of the definition. Assumes nothing.
use Rattle.region.proofs.RegionLaws.{region_outside, region_carried}
use Rattle.region.proofs.SearchLaws.{inside_order}
use Rattle.region.proofs.lift_ready.Goals as goal

pub returns-then-outside : goal.returns-then-outside
returns-then-outside c = search region_outside

pub overflow_sub-end : goal.overflow_sub-end
overflow_sub-end c = search inside_order

pub returns : goal.returns
returns c = search region_carried
