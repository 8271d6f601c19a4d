-- One more row at the table's front.
use native.Mathlib.Omega.{arith}
use Prim.Native.Nat.{◌<◌}
use lib.ListN.{length, take, length-take}
use Rattle.rows.proofs.Filled.{rows_more}
use Rattle.rows.proofs.store.Goals as goal

pub loop-i-preserved : goal.loop-i-preserved
loop-i-preserved c =
    let o = c.args in
    let n : c.loop-i.i < o.n = omega (arith, c.loop-i-test.true, length-take o.n o.rows.now) in
    let t : c.loop-i.i < length o.t.now = omega (arith, c.requires.1) in
    let q : c.loop-i.i < length o.q.now = omega (arith, c.requires.2) in
    let s : c.loop-i.i < length o.s.now = omega (arith, c.requires.3) in
    rows_more c.loop-i.i o.t.now o.q.now o.s.now (take o.n o.rows.now) c.loop-i.row-items t q s c.loop-i-test.true c.loop-i.invariant
