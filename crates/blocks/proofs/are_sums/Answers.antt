-- The rest are the sums that go on from the last one seen exactly when all are the sums. Assumes nothing.
use borrow.Author.Rules.{rules}
use mathlib.Core.Path.{◌≡◌, sym}
use Prim.Native.Nat.{◌-◌}
use lib.ListN.{take, drop}
use Rattle.std.specs.Iterator.Adapters.{zip_first, zip_second}
use Rattle.std.specs.Slice.Iter.{iter_rest}
use Rattle.std.proofs.lemmas.Iterator.{empty_from_Zip}
use Rattle.blocks.proofs.BlockLaws.{sums_uneven, sums_none, sums_off, sums_start, sums_before, sums_other, sums_more, sums_done}
use Rattle.blocks.proofs.are_sums.Goals as goal

pub returns-then-min-n : goal.returns-then-min-n
returns-then-min-n c = search sums_uneven

pub returns-then-n-eq0 : goal.returns-then-n-eq0
returns-then-n-eq0 c = search sums_none

pub returns-then-q-ne0 : goal.returns-then-q-ne0
returns-then-q-ne0 c = search sums_off

pub loop-x-init : goal.loop-x-init
loop-x-init c =
    let o = c.args in
    let a : iter_rest (zip_first c.into_iter-x-iterator.result) ≡ take (c.min-n.result - 1) (drop 1 o.queries.now) = search rules in
    let b : iter_rest (zip_second c.into_iter-x-iterator.result) ≡ take (c.min-n.result - 1) (drop 1 o.sizes.now) = search rules in
    sums_start o.queries.now o.sizes.now o.count _ _ c.min-n.ensures c.min.ensures c.if-min-n.false c.if-n-eq0.false _ _ a b c.if-q-ne0.false

pub returns-then-x-q : goal.returns-then-x-q
returns-then-x-q c = sums_before _ _ _ _ _ c.loop-x.invariant.1 _ _ _ _ c.in-Some.ensures.steps c.if-x-q.true

pub returns-then-x-q-2 : goal.returns-then-x-q-2
returns-then-x-q-2 c = sums_other _ _ _ _ _ c.loop-x.invariant.1 _ _ _ _ c.in-Some.ensures.steps c.if-x-q.false c.if-x-q-2.true

pub loop-x-preserved : goal.loop-x-preserved
loop-x-preserved c = sums_more _ _ _ _ _ c.loop-x.invariant.1 _ _ _ _ c.in-Some.ensures.steps c.loop-x.invariant.0 c.if-x-q.false c.if-x-q-2.false

pub returns : goal.returns
returns c = sums_done _ _ _ _ _ c.loop-x.invariant.1 (empty_from_Zip _ c.next.new.self _ c.in-None.is c.next.ensures.steps (sym c.loop-x.invariant.0))
