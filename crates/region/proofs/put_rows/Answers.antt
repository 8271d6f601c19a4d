-- Whatever stores the rows of the regions from here on completes the whole. Assumes nothing.
use mathlib.Core.Path.{refl, ap}
use mathlib.Core.List.{List}
use Prim.Native.Nat.{ℕ, ◌+◌, ◌*◌, ◌/◌, ◌<◌}
use native.Mathlib.Omega.{arith}
use lib.ListN.{length, get_or}
use Rattle.blocks.specs.Rows.{table_of}
use Rattle.binary.specs.Bytes.{words_bytes}
use Rattle.region.specs.Batches.{region_size, row_size}
use Rattle.region.proofs.ByteLaws.{sent_first, put_first, region_there, row_there, row_put, row_kept, sent_next, put_next, all_put}
use borrow.Author.Rules.{rules}
use Rattle.region.proofs.put_rows.Goals as goal

pub loop-i-init : goal.loop-i-init
loop-i-init c =
    let o = c.args in (
      refl,
      search rules,
      sent_first o.c (table_of o.targets.now o.queries.now o.sizes.now) o.regions.now (length o.regions.now / region_size) o.tally,
      put_first o.c (table_of o.targets.now o.queries.now o.sizes.now) o.regions.now (length o.regions.now / region_size) o.tally o.out.now,
    )

pub region_at-region-requires : goal.region_at-region-requires
region_at-region-requires c = search region_there

pub put_row-requires : goal.put_row-requires
put_row-requires c = search row_there

pub loop-i-preserved : goal.loop-i-preserved
loop-i-preserved c =
    let o = c.args in let l = c.loop-i in let h : l.i < length o.regions.now / region_size = omega arith in
    let m = length o.regions.now / region_size in
    let n = c.region_at-region in let g = c.quick_reach-r in let r = c.step_ready-done in let w = c.answer_row-row in let f = c.put_row in
    let a = ap (λ (x : List ℕ). get_or x 0 0) n.ensures in let e = ap (λ (x : List ℕ). get_or x 1 0) n.ensures in
    let put = row_put l.out f.new.out w.result r.result.answer l.i w.ensures (row_there l.i m l.out o.out.now h c.requires.1 l.invariant.0) l.invariant.1 f.ensures in
    let k = row_kept l.out f.new.out o.out.now (words_bytes w.result) (row_size * l.i) f.ensures l.invariant.0 l.invariant.1 in (
      k.0,
      k.1,
      sent_next o.c o.targets.now o.queries.now o.sizes.now o.regions.now m l.i l.t h _ _ a e c.requires.0.ready g.result g.ensures r.result r.ensures _ l.invariant.2,
      put_next o.c o.targets.now o.queries.now o.sizes.now o.regions.now m l.i l.t h _ _ a e c.requires.0.ready g.result g.ensures r.result r.ensures w.result _ l.out f.new.out o.out.now (row_size * l.i) (row_size * (l.i + 1)) w.ensures put l.invariant.3,
    )

pub returns : goal.returns
returns c =
    let o = c.args in let l = c.loop-i in
    all_put o.c (table_of o.targets.now o.queries.now o.sizes.now) o.regions.now (length o.regions.now / region_size) l.i (row_size * l.i) o.tally l.t l.out o.out.now refl (omega arith) (omega (arith, c.requires.1, l.invariant.0, l.invariant.1)) l.invariant.1 l.invariant.2 l.invariant.3
