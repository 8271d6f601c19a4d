-- The blocks that halving finds in the column of starts. Assumes nothing.
use native.Mathlib.Omega.{arith}
use Rattle.region.proofs.SearchLaws.{meets_if, found_none, column_order, column_inner, outside_found, inside_some, inside_last, start_fits, start_small, end_small, quick_start, quick_end, indexed_rise, reached_found, few}
use Rattle.region.proofs.quick_reach.Goals as goal

pub returns-then-outside : goal.returns-then-outside
returns-then-outside c = search outside_found

pub overflow_add-start : goal.overflow_add-start
overflow_add-start c = let p = c.requires in search start_fits

pub last_below-h-requires : goal.last_below-h-requires
last_below-h-requires c = (search indexed_rise, let p = c.requires in search start_small)

pub bounds-targets-h : goal.bounds-targets-h
bounds-targets-h c =
    let o = c.args in let p = c.requires in let out = c.outside in let inn = c.if-outside.false in
    let h = c.last_below-h in let bh = quick_start o.c o.targets.now o.queries.now o.sizes.now o.starts.now o.before.now p o.start o.end out.result out.ensures inn h.result h.ensures in
    omega (arith, bh.inside, p.ready.wide.targets)

pub bounds-sizes-h : goal.bounds-sizes-h
bounds-sizes-h c =
    let o = c.args in let p = c.requires in let out = c.outside in let inn = c.if-outside.false in
    let h = c.last_below-h in let bh = quick_start o.c o.targets.now o.queries.now o.sizes.now o.starts.now o.before.now p o.start o.end out.result out.ensures inn h.result h.ensures in
    omega (arith, bh.inside, p.ready.wide.sizes)

pub overflow_add-targets : goal.overflow_add-targets
overflow_add-targets c =
    let o = c.args in let p = c.requires in let out = c.outside in let inn = c.if-outside.false in
    let h = c.last_below-h in let bh = quick_start o.c o.targets.now o.queries.now o.sizes.now o.starts.now o.before.now p o.start o.end out.result out.ensures inn h.result h.ensures in
    omega (arith, p.ready.t_block h.result bh.inside, p.ready.t_inside, p.ready.t_most)

pub last_below-j-requires : goal.last_below-j-requires
last_below-j-requires c = (search indexed_rise, search end_small)

pub bounds-targets-j : goal.bounds-targets-j
bounds-targets-j c =
    let o = c.args in let p = c.requires in let out = c.outside in let inn = c.if-outside.false in
    let h = c.last_below-h in let bh = quick_start o.c o.targets.now o.queries.now o.sizes.now o.starts.now o.before.now p o.start o.end out.result out.ensures inn h.result h.ensures in
    let j = c.last_below-j in let bj = quick_end o.c o.targets.now o.queries.now o.sizes.now o.starts.now o.before.now p o.start o.end out.result out.ensures inn j.result j.ensures in let i = c.block_past-i in
    omega (arith, bj.inside, p.ready.wide.targets)

pub returns-then-j-i : goal.returns-then-j-i
returns-then-j-i c =
    let o = c.args in let p = c.requires in let out = c.outside in let inn = c.if-outside.false in
    let h = c.last_below-h in let bh = quick_start o.c o.targets.now o.queries.now o.sizes.now o.starts.now o.before.now p o.start o.end out.result out.ensures inn h.result h.ensures in
    let j = c.last_below-j in let bj = quick_end o.c o.targets.now o.queries.now o.sizes.now o.starts.now o.before.now p o.start o.end out.result out.ensures inn j.result j.ensures in let i = c.block_past-i in
    found_none o.c o.targets.now o.queries.now o.sizes.now p.ready o.start o.end h.result i.result j.result (inside_some o.c.tSize o.start o.end out.result out.ensures inn) bh i.ensures bj c.if-j-i.true c.no_reach-then-j-i.result c.no_reach-then-j-i.ensures

pub bounds-before-j : goal.bounds-before-j
bounds-before-j c =
    let o = c.args in let p = c.requires in let out = c.outside in let inn = c.if-outside.false in
    let h = c.last_below-h in let bh = quick_start o.c o.targets.now o.queries.now o.sizes.now o.starts.now o.before.now p o.start o.end out.result out.ensures inn h.result h.ensures in
    let j = c.last_below-j in let bj = quick_end o.c o.targets.now o.queries.now o.sizes.now o.starts.now o.before.now p o.start o.end out.result out.ensures inn j.result j.ensures in let i = c.block_past-i in
    omega (arith, bj.inside, p.summed.room)

pub offset_bounds-before-i : goal.offset_bounds-before-i
offset_bounds-before-i c =
    let o = c.args in let p = c.requires in let out = c.outside in let inn = c.if-outside.false in
    let h = c.last_below-h in let bh = quick_start o.c o.targets.now o.queries.now o.sizes.now o.starts.now o.before.now p o.start o.end out.result out.ensures inn h.result h.ensures in
    let j = c.last_below-j in let bj = quick_end o.c o.targets.now o.queries.now o.sizes.now o.starts.now o.before.now p o.start o.end out.result out.ensures inn j.result j.ensures in let i = c.block_past-i in
    let m = meets_if o.c o.targets.now o.queries.now o.sizes.now p.ready o.start o.end h.result i.result j.result (inside_some o.c.tSize o.start o.end out.result out.ensures inn) bh i.ensures bj c.if-j-i.false in
    omega (arith, m.order, m.inside, few o.c o.targets.now o.queries.now o.sizes.now p.ready)

pub bounds-before-i : goal.bounds-before-i
bounds-before-i c =
    let o = c.args in let p = c.requires in let out = c.outside in let inn = c.if-outside.false in
    let h = c.last_below-h in let bh = quick_start o.c o.targets.now o.queries.now o.sizes.now o.starts.now o.before.now p o.start o.end out.result out.ensures inn h.result h.ensures in
    let j = c.last_below-j in let bj = quick_end o.c o.targets.now o.queries.now o.sizes.now o.starts.now o.before.now p o.start o.end out.result out.ensures inn j.result j.ensures in let i = c.block_past-i in
    let m = meets_if o.c o.targets.now o.queries.now o.sizes.now p.ready o.start o.end h.result i.result j.result (inside_some o.c.tSize o.start o.end out.result out.ensures inn) bh i.ensures bj c.if-j-i.false in
    omega (arith, m.order, m.inside, p.summed.room)

pub overflow_sub-inner : goal.overflow_sub-inner
overflow_sub-inner c =
    let o = c.args in let p = c.requires in let out = c.outside in let inn = c.if-outside.false in
    let h = c.last_below-h in let bh = quick_start o.c o.targets.now o.queries.now o.sizes.now o.starts.now o.before.now p o.start o.end out.result out.ensures inn h.result h.ensures in
    let j = c.last_below-j in let bj = quick_end o.c o.targets.now o.queries.now o.sizes.now o.starts.now o.before.now p o.start o.end out.result out.ensures inn j.result j.ensures in let i = c.block_past-i in
    let m = meets_if o.c o.targets.now o.queries.now o.sizes.now p.ready o.start o.end h.result i.result j.result (inside_some o.c.tSize o.start o.end out.result out.ensures inn) bh i.ensures bj c.if-j-i.false in
    column_order o.c o.targets.now o.queries.now o.sizes.now p.ready o.before.now p.summed i.result j.result m.order m.inside

pub reach_across-requires : goal.reach_across-requires
reach_across-requires c =
    let o = c.args in let p = c.requires in let out = c.outside in let inn = c.if-outside.false in
    let h = c.last_below-h in let bh = quick_start o.c o.targets.now o.queries.now o.sizes.now o.starts.now o.before.now p o.start o.end out.result out.ensures inn h.result h.ensures in
    let j = c.last_below-j in let bj = quick_end o.c o.targets.now o.queries.now o.sizes.now o.starts.now o.before.now p o.start o.end out.result out.ensures inn j.result j.ensures in let i = c.block_past-i in
    let m = meets_if o.c o.targets.now o.queries.now o.sizes.now p.ready o.start o.end h.result i.result j.result (inside_some o.c.tSize o.start o.end out.result out.ensures inn) bh i.ensures bj c.if-j-i.false in
    (p.ready, m, column_inner o.c o.targets.now o.queries.now o.sizes.now p.ready o.before.now p.summed i.result j.result m.order m.inside, inside_some o.c.tSize o.start o.end out.result out.ensures inn, inside_last o.c.tSize o.start o.end out.result out.ensures inn)

pub returns : goal.returns
returns c = search reached_found
