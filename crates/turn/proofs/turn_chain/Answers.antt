-- Each way out: the refusals leave the slices; the fills store the columns of the turned rows. Assumes nothing.
use mathlib.Core.Path.{ap}
use mathlib.Core.Bool.{not}
use Rattle.blocks.specs.Blocks.{rows_of}
use Rattle.blocks.specs.Rows.{table_of}
use Rattle.lift.specs.Accepted.{Wide, Ready}
use Rattle.lift.proofs.AcceptLaws.{ready_if}
use Rattle.turn.proofs.FillLaws.{as_before, turn_bad, turn_full, turn_made, roomy, fillable, spans_fit_lem, targets_made, queries_made, sizes_made}
use Rattle.turn.proofs.turn_chain.Goals as goal

pub returns-then-not-is_accepted : goal.returns-then-not-is_accepted
returns-then-not-is_accepted c = record { is = search turn_bad; targets = search as_before; queries = search as_before; sizes = search as_before }

pub returns-then-room-n : goal.returns-then-room-n
returns-then-room-n c = record { is = search turn_full; targets = search as_before; queries = search as_before; sizes = search as_before }

pub fill_starts-requires : goal.fill_starts-requires
fill_starts-requires c =
    let o = c.args in
    let h : Ready o.c o.targets.now o.queries.now o.sizes.now = ready_if o.c o.targets.now o.queries.now o.sizes.now _ c.is_accepted.ensures (ap not c.if-not-is_accepted.false) in
    let w : Wide o.c.blockCount o.newTargets.now o.newQueries.now o.newSizes.now = roomy o.c.blockCount _ o.newTargets.now o.newQueries.now o.newSizes.now c.rows_of-room.ensures c.if-room-n.false in
    fillable _ _ _ _ _ _ h.wide.queries h.wide.sizes w.targets h.q_inside h.q_most h.q_block

pub fill_starts-requires-2 : goal.fill_starts-requires-2
fill_starts-requires-2 c =
    let o = c.args in
    let h : Ready o.c o.targets.now o.queries.now o.sizes.now = ready_if o.c o.targets.now o.queries.now o.sizes.now _ c.is_accepted.ensures (ap not c.if-not-is_accepted.false) in
    let w : Wide o.c.blockCount o.newTargets.now o.newQueries.now o.newSizes.now = roomy o.c.blockCount _ o.newTargets.now o.newQueries.now o.newSizes.now c.rows_of-room.ensures c.if-room-n.false in
    fillable _ _ _ _ _ _ h.wide.targets h.wide.sizes w.queries h.t_inside h.t_most h.t_block

pub fill_sizes-requires : goal.fill_sizes-requires
fill_sizes-requires c =
    let o = c.args in
    let h : Ready o.c o.targets.now o.queries.now o.sizes.now = ready_if o.c o.targets.now o.queries.now o.sizes.now _ c.is_accepted.ensures (ap not c.if-not-is_accepted.false) in
    let w : Wide o.c.blockCount o.newTargets.now o.newQueries.now o.newSizes.now = roomy o.c.blockCount _ o.newTargets.now o.newQueries.now o.newSizes.now c.rows_of-room.ensures c.if-room-n.false in
    (h.wide.sizes, w.sizes)

pub turn_record-d-requires : goal.turn_record-d-requires
turn_record-d-requires c =
    let o = c.args in
    let h : Ready o.c o.targets.now o.queries.now o.sizes.now = ready_if o.c o.targets.now o.queries.now o.sizes.now _ c.is_accepted.ensures (ap not c.if-not-is_accepted.false) in
    spans_fit_lem _ _ h.ok

pub returns : goal.returns
returns c =
    let o = c.args in
    let h : Ready o.c o.targets.now o.queries.now o.sizes.now = ready_if o.c o.targets.now o.queries.now o.sizes.now _ c.is_accepted.ensures (ap not c.if-not-is_accepted.false) in
    record {
      is = turn_made o.c (table_of o.targets.now o.queries.now o.sizes.now) (rows_of o.newTargets.now o.newQueries.now o.newSizes.now) _ c.is_accepted.ensures (ap not c.if-not-is_accepted.false) _ c.rows_of-room.ensures c.if-room-n.false _ c.turn_record-d.ensures;
      targets = targets_made _ _ _ _ h _ _ c.fill_starts.ensures;
      queries = queries_made _ _ _ _ h _ _ c.fill_starts-2.ensures;
      sizes = sizes_made _ _ _ _ h _ _ c.fill_sizes.ensures;
    }
