-- Storing the rest of the sizes from here on completes storing all of them. Assumes nothing.
use mathlib.Core.Path.{◌≡◌}
use native.Mathlib.Omega.{arith}
use lib.ListN.{length, take, length-take}
use Rattle.turn.specs.Turns.{size_at}
use Rattle.turn.proofs.FillLaws.{fill_start, fill_step, fill_end, fill_front, size_is}
use Rattle.turn.proofs.fill_sizes.Goals as goal

pub loop-i-init : goal.loop-i-init
loop-i-init c = search fill_start

pub loop-i-preserved : goal.loop-i-preserved
loop-i-preserved c =
    let o = c.args in let l = c.loop-i in
    let j = c.source_of-j in
    let long : length (take o.n o.out.now) ≡ o.n = rw length-take (omega arith) in
    fill_step (size_at o.k o.n o.sizes.now) o.n l.i _ _ _ l.invariant (omega arith) (size_is o.k o.n o.sizes.now l.i j.result j.ensures.0)

pub returns : goal.returns
returns c =
    let o = c.args in let l = c.loop-i in
    let f = size_at o.k o.n o.sizes.now in
    let long : length (take o.n o.out.now) ≡ o.n = rw length-take (omega arith) in
    fill_front f o.n o.out.now _ (omega arith) (fill_end f o.n l.i _ _ l.invariant (omega arith))
