-- The blocks that halving finds in the starts. Assumes nothing.
use Rattle.region.proofs.SearchLaws.{starts_rise, meets_if, found_none, summable_to, outside_found, inside_some, inside_last, start_fits, start_small, end_small, found_few, found_end, reached_found}
use Rattle.region.proofs.region_reach.Goals as goal

pub returns-then-outside : goal.returns-then-outside
returns-then-outside c = search outside_found

pub overflow_add-start : goal.overflow_add-start
overflow_add-start c = search start_fits

pub last_below-h-requires : goal.last_below-h-requires
last_below-h-requires c = (search starts_rise, search start_small)

pub overflow_add-targets : goal.overflow_add-targets
overflow_add-targets c = search found_end

pub block_past-first-requires : goal.block_past-first-requires
block_past-first-requires c = search found_few

pub last_below-last-requires : goal.last_below-last-requires
last_below-last-requires c = (search starts_rise, search end_small)

pub returns-then-last-first : goal.returns-then-last-first
returns-then-last-first c =
    let o = c.args in let p = c.requires in
    let out = c.outside in let inn = c.if-outside.false in let h = c.last_below-h in let i = c.block_past-first in let j = c.last_below-last in
    found_none o.c o.targets.now o.queries.now o.sizes.now p o.start o.end h.result i.result j.result (inside_some o.c.tSize o.start o.end out.result out.ensures inn) h.ensures i.ensures j.ensures c.if-last-first.true c.no_reach-then-last-first.result c.no_reach-then-last-first.ensures

pub sizes_between-inner-requires : goal.sizes_between-inner-requires
sizes_between-inner-requires c =
    let o = c.args in let p = c.requires in
    let out = c.outside in let inn = c.if-outside.false in let h = c.last_below-h in let i = c.block_past-first in let j = c.last_below-last in
    let m = meets_if o.c o.targets.now o.queries.now o.sizes.now p o.start o.end h.result i.result j.result (inside_some o.c.tSize o.start o.end out.result out.ensures inn) h.ensures i.ensures j.ensures c.if-last-first.false in
    (summable_to o.c o.targets.now o.queries.now o.sizes.now p j.result m.inside, m.order)

pub reach_across-requires : goal.reach_across-requires
reach_across-requires c =
    let o = c.args in let p = c.requires in
    let out = c.outside in let inn = c.if-outside.false in let h = c.last_below-h in let i = c.block_past-first in let j = c.last_below-last in
    (p, meets_if o.c o.targets.now o.queries.now o.sizes.now p o.start o.end h.result i.result j.result (inside_some o.c.tSize o.start o.end out.result out.ensures inn) h.ensures i.ensures j.ensures c.if-last-first.false, c.sizes_between-inner.ensures, inside_some o.c.tSize o.start o.end out.result out.ensures inn, inside_last o.c.tSize o.start o.end out.result out.ensures inn)

pub returns : goal.returns
returns c = search reached_found
