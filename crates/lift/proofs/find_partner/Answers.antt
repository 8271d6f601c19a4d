use Prim.Native.Nat.{◌<◌}
use lib.ListN.{get_or}
use native.Mathlib.Omega.{arith}
use borrow.Author.Rules.{rules}
use Rattle.lift.specs.Pairs.{pairs}
use Rattle.lift.proofs.FindLaws.{held, seek_on, seek_found, seek_past, told_low}
use Rattle.lift.proofs.find_partner.Goals as goal

pub overflow_sub-s : goal.overflow_sub-s
overflow_sub-s c = search told_low

pub overflow_add-s : goal.overflow_add-s
overflow_add-s c =
    let o = c.args in let l = c.loop-i in let r = c.requires in
    let h = held (get_or o.targets.now l.i 0) (get_or o.sizes.now l.i 0) o.p _ c.in_block.ensures.is c.if-in_block.true in
    let b : l.i < o.c.blockCount = search rules in
    omega (arith, r.q_block l.i b)

pub forward_base-requires : goal.forward_base-requires
forward_base-requires c =
    let o = c.args in let l = c.loop-i in let r = c.requires in
    let h = held (get_or o.targets.now l.i 0) (get_or o.sizes.now l.i 0) o.p _ c.in_block.ensures.is c.if-in_block.true in
    let b : l.i < o.c.blockCount = search rules in
    omega (arith, r.q_block l.i b)

pub returns-then-in_block : goal.returns-then-in_block
unfolding pairs
returns-then-in_block c = search seek_found

pub loop-i-preserved : goal.loop-i-preserved
loop-i-preserved c = search (seek_on, c.if-in_block.false, c.in_block.ensures, c.loop-i.invariant)

pub returns : goal.returns
unfolding pairs
returns c = search seek_past
