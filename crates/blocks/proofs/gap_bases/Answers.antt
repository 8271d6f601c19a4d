-- The bases of the gaps so far and of those after the last block seen come to the bases of all. Assumes nothing.
use borrow.Author.Rules.{rules}
use mathlib.Core.Path.{◌≡◌}
use Prim.Native.Nat.{◌-◌}
use lib.ListN.{take, drop}
use Rattle.std.specs.Iterator.Adapters.{zip_first, zip_second}
use Rattle.std.specs.Slice.Iter.{iter_rest}
use Rattle.std.proofs.lemmas.Slice.Zip.{either_empty_from_Zip}
use Rattle.blocks.proofs.GapLaws.{bases_none, bases_start, bases_more, bases_done}
use Rattle.blocks.proofs.gap_bases.Goals as goal

pub returns-then-n-eq0 : goal.returns-then-n-eq0
returns-then-n-eq0 c = search bases_none

pub loop-x-init : goal.loop-x-init
loop-x-init c =
    let o = c.args in
    let a : iter_rest (zip_first c.into_iter-x-iterator.result) ≡ take (c.min-n.result - 1) (drop 1 o.starts.now) = search rules in
    let b : iter_rest (zip_second c.into_iter-x-iterator.result) ≡ take (c.min-n.result - 1) (drop 1 o.sizes.now) = search rules in
    (search rules, bases_start o.starts.now o.sizes.now o.count _ _ c.min.ensures c.min-n.ensures c.if-n-eq0.false _ _ a b)

pub loop-x-preserved : goal.loop-x-preserved
loop-x-preserved c = (search rules, bases_more _ _ _ _ _ _ c.loop-x.invariant.1 _ _ _ _ c.in-Some.ensures.steps _ _ c.gap_after.ensures c.saturating_add-bases.ensures)

pub returns : goal.returns
returns c =
    let e = either_empty_from_Zip _ c.next.new.self _ c.in-None.is c.next.ensures.steps in
    bases_done _ _ _ _ _ _ c.loop-x.invariant.1 e c.loop-x.invariant.0
