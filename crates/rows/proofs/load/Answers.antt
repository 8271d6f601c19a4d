-- One more row at each column's front.
use native.Mathlib.Omega.{arith}
use mathlib.Core.Path.{◌≡◌}
use Prim.Native.Nat.{◌<◌}
use lib.ListN.{length, take, get_or, length-take}
use lib.Seq.{get_or-take}
use Rattle.ledger.specs.declared.Row.{Row}
use Rattle.blocks.specs.Rows.{no_row}
use Rattle.rows.proofs.Filled.{front_more}
use Rattle.rows.proofs.load.Goals as goal

pub loop-i-preserved : goal.loop-i-preserved
loop-i-preserved c =
    let o = c.args in
    let h = c.loop-i.invariant in
    let n : c.loop-i.i < o.n = omega (arith, c.loop-i-test.true, length-take o.n o.rows.now) in
    let r : c.loop-i.i < length o.rows.now = omega (arith, c.requires.0) in
    let t : c.loop-i.i < length o.t.now = omega (arith, c.requires.1) in
    let q : c.loop-i.i < length o.q.now = omega (arith, c.requires.2) in
    let s : c.loop-i.i < length o.s.now = omega (arith, c.requires.3) in
    let g : get_or (take o.n o.rows.now) c.loop-i.i no_row ≡ get_or o.rows.now c.loop-i.i no_row = get_or-take o.n o.rows.now c.loop-i.i no_row n in
    record {
      targets = rw g (front_more (λ (b : Row). b.target) o.rows.now no_row o.t.now _ _ r t h.targets);
      queries = rw g (front_more (λ (b : Row). b.query) o.rows.now no_row o.q.now _ _ r q h.queries);
      sizes = rw g (front_more (λ (b : Row). b.size) o.rows.now no_row o.s.now _ _ r s h.sizes);
    }
