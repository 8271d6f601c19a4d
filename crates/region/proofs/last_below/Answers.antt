-- The place lies from low on, before low + width. Assumes nothing.
use native.Mathlib.Omega.{arith}
use Rattle.region.proofs.SearchLaws.{halving_all, halving_step, halving_mid, halving_low, halving_small, halving_done}
use Rattle.region.proofs.last_below.Goals as goal

pub loop-width-init : goal.loop-width-init
loop-width-init c = search halving_all

pub bounds-starts-low : goal.bounds-starts-low
bounds-starts-low c = search halving_mid

pub starts_below-requires : goal.starts_below-requires
starts_below-requires c =
    let o = c.args in let r = c.requires in let l = c.loop-width in
    halving_small o.starts.now o.n o.p l.low l.width r.0 (omega arith) l.invariant r.1

pub overflow_mul-low : goal.overflow_mul-low
overflow_mul-low c =
    let o = c.args in let r = c.requires in let l = c.loop-width in
    omega (arith, halving_low o.starts.now o.n o.p l.low l.width r.0 (omega arith) l.invariant c.starts_below.result c.starts_below.ensures, l.invariant.room)

pub overflow_add-low-in-loop-width : goal.overflow_add-low-in-loop-width
overflow_add-low-in-loop-width c =
    let o = c.args in let r = c.requires in let l = c.loop-width in
    omega (arith, halving_low o.starts.now o.n o.p l.low l.width r.0 (omega arith) l.invariant c.starts_below.result c.starts_below.ensures, l.invariant.room)

pub loop-width-preserved : goal.loop-width-preserved
loop-width-preserved c = search halving_step

pub returns : goal.returns
returns c = search halving_done
