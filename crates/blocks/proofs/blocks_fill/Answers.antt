-- The rule for the blocks from here on, after the last one seen, is the rule for all of them. Assumes nothing.
use borrow.Author.Rules.{rules}
use native.Mathlib.Omega.{arith}
use mathlib.Core.Path.{◌≡◌, sym}
use Prim.Native.Nat.{◌-◌}
use lib.ListN.{take, drop}
use Rattle.std.specs.Iterator.Adapters.{zip_first, zip_second}
use Rattle.std.specs.Slice.Iter.{iter_rest}
use Rattle.std.proofs.lemmas.Iterator.{empty_from_Zip}
use Rattle.blocks.proofs.BlockLaws.{fill_uneven, fill_none, fill_off, fill_start, fill_before, fill_within, fill_more, fill_past, fill_done}
use Rattle.blocks.proofs.blocks_fill.Goals as goal

pub returns-then-min-n : goal.returns-then-min-n
returns-then-min-n c = search fill_uneven

pub returns-then-n-eq0 : goal.returns-then-n-eq0
returns-then-n-eq0 c = search fill_none

pub returns-then-s-first : goal.returns-then-s-first
returns-then-s-first c = search fill_off

pub loop-x-init : goal.loop-x-init
loop-x-init c =
    let o = c.args in
    let a : iter_rest (zip_first c.into_iter-x-iterator.result) ≡ take (c.min-n.result - 1) (drop 1 o.starts.now) = search rules in
    let b : iter_rest (zip_second c.into_iter-x-iterator.result) ≡ take (c.min-n.result - 1) (drop 1 o.sizes.now) = search rules in
    fill_start o.starts.now o.sizes.now o.count _ _ c.min-n.ensures c.min.ensures o.first o.last c.if-min-n.false c.if-n-eq0.false _ _ a b c.if-s-first.false

pub returns-then-x-s : goal.returns-then-x-s
returns-then-x-s c = fill_before _ _ _ _ _ _ c.loop-x.invariant.1 _ _ _ _ c.in-Some.ensures.steps c.if-x-s.true

pub returns-then-x-s-2 : goal.returns-then-x-s-2
returns-then-x-s-2 c = fill_within _ _ _ _ _ _ c.loop-x.invariant.1 _ _ _ _ c.in-Some.ensures.steps c.if-x-s.false (omega (arith, c.if-x-s-2.true))

pub loop-x-preserved : goal.loop-x-preserved
loop-x-preserved c = fill_more _ _ _ _ _ _ c.loop-x.invariant.1 _ _ _ _ c.in-Some.ensures.steps c.loop-x.invariant.0 c.if-x-s.false c.if-x-s-2.false

pub returns-then-last-s : goal.returns-then-last-s
returns-then-last-s c =
    let e = empty_from_Zip _ c.next.new.self _ c.in-None.is c.next.ensures.steps (sym c.loop-x.invariant.0) in
    fill_past _ _ _ _ _ _ c.loop-x.invariant.1 e c.if-last-s.true

pub returns : goal.returns
returns c =
    let e = empty_from_Zip _ c.next.new.self _ c.in-None.is c.next.ensures.steps (sym c.loop-x.invariant.0) in
    fill_done _ _ _ _ _ _ c.loop-x.invariant.1 e c.if-last-s.false
