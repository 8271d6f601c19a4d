-- Storing the rest of the starts from here on completes storing all of them. Assumes nothing.
use mathlib.Core.Path.{◌≡◌}
use native.Mathlib.Omega.{arith}
use lib.ListN.{length, take, length-take}
use Rattle.turn.specs.Turns.{start_at}
use Rattle.turn.proofs.FillLaws.{fill_start, fill_step, fill_end, fill_front, start_is}
use Rattle.turn.proofs.fill_starts.Goals as goal

pub loop-i-init : goal.loop-i-init
loop-i-init c = search fill_start

pub overflow_add-x : goal.overflow_add-x
overflow_add-x c =
    let j = c.source_of-j in
    omega (arith, c.requires.within j.result j.ensures.1)

pub loop-i-preserved : goal.loop-i-preserved
loop-i-preserved c =
    let o = c.args in let l = c.loop-i in
    let j = c.source_of-j in
    let long : length (take o.n o.out.now) ≡ o.n = rw length-take (omega arith) in
    fill_step (start_at o.k o.size o.n o.starts.now o.sizes.now) o.n l.i _ _ c.strand_start.result l.invariant (omega arith)
    (start_is o.k o.size o.n o.starts.now o.sizes.now l.i j.result c.strand_start.result j.ensures.0 c.strand_start.ensures)

pub returns : goal.returns
returns c =
    let o = c.args in let l = c.loop-i in
    let f = start_at o.k o.size o.n o.starts.now o.sizes.now in
    let long : length (take o.n o.out.now) ≡ o.n = rw length-take (omega arith) in
    fill_front f o.n o.out.now _ (omega arith) (fill_end f o.n l.i _ _ l.invariant (omega arith))
