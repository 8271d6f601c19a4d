-- Rows up to i are written, and the tally is that after them. Assumes nothing.
use mathlib.Core.Path.{◌∙◌}
use Prim.Native.Nat.{◌≤◌, ◌<◌}
use native.Mathlib.Omega.{arith}
use lib.ListN.{length, length-set}
use Rattle.blocks.specs.Rows.{table_of}
use Rattle.region.proofs.BatchLaws.{tally_next, rows_next, all_answered}
use Rattle.region.proofs.answer_all.Goals as goal

pub loop-i-preserved : goal.loop-i-preserved
loop-i-preserved c =
    let o = c.args in let l = c.loop-i in let g = c.quick_reach-r in let r = c.step_ready-done in
    let h : l.i < length o.regions.now = omega arith in
    let w : length o.regions.now ≤ length l.answers = omega (arith, c.requires.1) in (
      length-set l.answers l.i c.answer_row.result ∙ l.invariant.0,
      tally_next o.c o.targets.now o.queries.now o.sizes.now o.regions.now l.t o.tally l.i h g.result r.result c.requires.0.ready g.ensures r.ensures l.invariant.1,
      rows_next o.c o.targets.now o.queries.now o.sizes.now o.regions.now l.t o.tally l.i h g.result r.result c.requires.0.ready g.ensures r.ensures l.answers _ c.answer_row.result w c.answer_row.ensures l.invariant.2,
    )

pub returns : goal.returns
returns c =
    let o = c.args in let l = c.loop-i in
    all_answered o.c (table_of o.targets.now o.queries.now o.sizes.now) o.regions.now o.answers.now l.answers o.tally l.t l.i (omega arith) (omega arith) l.invariant.1 l.invariant.2
