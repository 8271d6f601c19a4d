-- The sizes up to block k are summed. Assumes nothing.
use native.Mathlib.Omega.{arith}
use Rattle.region.proofs.SearchLaws.{from_none, from_more, from_fits, from_done}
use borrow.Author.Rules.{rules}
use Rattle.region.proofs.sizes_between.Goals as goal

pub loop-k-init : goal.loop-k-init
loop-k-init c = search from_none

pub overflow_add-sum : goal.overflow_add-sum
overflow_add-sum c = search from_fits

pub loop-k-preserved : goal.loop-k-preserved
loop-k-preserved c =
    let o = c.args in let l = c.loop-k in
    from_more o.sizes.now o.i l.k l.sum (search rules) l.invariant

pub returns : goal.returns
returns c =
    let o = c.args in let l = c.loop-k in
    from_done o.sizes.now o.i o.j l.k l.sum (l.auto.k-end c.requires.1) (omega arith) l.invariant
