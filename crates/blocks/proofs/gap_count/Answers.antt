-- The gaps so far and those after the last block seen are all of them. Assumes nothing.
use borrow.Author.Rules.{rules}
use mathlib.Core.Path.{◌≡◌}
use Prim.Native.Nat.{◌-◌}
use native.Mathlib.Omega.{arith}
use lib.ListN.{take, drop}
use Rattle.std.specs.Iterator.Adapters.{zip_first, zip_second}
use Rattle.std.specs.Slice.Iter.{iter_rest}
use Rattle.std.proofs.lemmas.Slice.Zip.{either_empty_from_Zip}
use Rattle.blocks.proofs.GapLaws.{gaps_none, gaps_start, gaps_more, gaps_done}
use Rattle.blocks.proofs.gap_count.Goals as goal

pub returns-then-n-eq0 : goal.returns-then-n-eq0
returns-then-n-eq0 c = search gaps_none

pub loop-x-init : goal.loop-x-init
loop-x-init c =
    let o = c.args in
    let a : iter_rest (zip_first c.into_iter-x-iterator.result) ≡ take (c.min-n.result - 1) (drop 1 o.starts.now) = search rules in
    let b : iter_rest (zip_second c.into_iter-x-iterator.result) ≡ take (c.min-n.result - 1) (drop 1 o.sizes.now) = search rules in
    gaps_start o.starts.now o.sizes.now o.count _ _ c.min.ensures c.min-n.ensures c.if-n-eq0.false _ _ a b

pub loop-x-preserved : goal.loop-x-preserved
loop-x-preserved c = gaps_more _ _ _ _ _ _ c.loop-x.invariant.1 _ _ _ _ c.in-Some.ensures.steps _ _ _ c.gap_after.ensures (omega arith) c.loop-x.invariant.0

pub returns : goal.returns
returns c =
    let e = either_empty_from_Zip _ c.next.new.self _ c.in-None.is c.next.ensures.steps in
    gaps_done _ _ _ _ _ _ c.loop-x.invariant.1 e
