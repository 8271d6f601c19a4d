-- The walk from here is the walk from the start, and the rows so far are those of the lines before. What is left falls. Assumes nothing.
use mathlib.Core.Path.{◌∙◌, ap}
use Rattle.std.specs.Prelude.{Ok}
use Rattle.std.proofs.lemmas.Result.{err_from_is_err_and}
use Rattle.chain.proofs.WalkLaws.{walk_start, walk_past, walk_refused, walk_last, walk_more, last_target_fits, last_query_fits, gap_target_fits, gap_query_fits, next_target_fits, next_query_fits, last_some, last_index, gap_some, gap_index, gap_less}
use Rattle.chain.proofs.walk_lines.Goals as goal

pub loop-line-init : goal.loop-line-init
loop-line-init c = search walk_start

pub returns-in_err-block : goal.returns-in_err-block
returns-in_err-block c =
    let p = err_from_is_err_and c.from_residual.result c.from_residual.ensures.1 in
    rw (p.1, p.2) (search (walk_refused, c.in_err-block.was))

pub put_row-requires : goal.put_row-requires
put_row-requires c = search (last_index, c.in_ok-block.was ∙ ap Ok c.in-Last.is)

pub overflow_sub-result : goal.overflow_sub-result
overflow_sub-result c = search (last_some, c.in_ok-block.was ∙ ap Ok c.in-Last.is)

pub overflow_add-result : goal.overflow_add-result
overflow_add-result c = search (last_target_fits, c.in_ok-block.was ∙ ap Ok c.in-Last.is)

pub overflow_add-result-in-Last : goal.overflow_add-result-in-Last
overflow_add-result-in-Last c = search (last_query_fits, c.in_ok-block.was ∙ ap Ok c.in-Last.is)

pub returns-in-Last : goal.returns-in-Last
returns-in-Last c = search (walk_last, c.in_ok-block.was ∙ ap Ok c.in-Last.is)

pub put_row-requires-in-Gap : goal.put_row-requires-in-Gap
put_row-requires-in-Gap c = search (gap_index, c.in_ok-block.was ∙ ap Ok c.in-Gap.is)

pub overflow_add-t : goal.overflow_add-t
overflow_add-t c = search (gap_target_fits, c.in_ok-block.was ∙ ap Ok c.in-Gap.is)

pub overflow_add-t-in-Gap : goal.overflow_add-t-in-Gap
overflow_add-t-in-Gap c = search (next_target_fits, c.in_ok-block.was ∙ ap Ok c.in-Gap.is)

pub overflow_add-q : goal.overflow_add-q
overflow_add-q c = search (gap_query_fits, c.in_ok-block.was ∙ ap Ok c.in-Gap.is)

pub overflow_add-q-in-Gap : goal.overflow_add-q-in-Gap
overflow_add-q-in-Gap c = search (next_query_fits, c.in_ok-block.was ∙ ap Ok c.in-Gap.is)

pub overflow_sub-left-in-loop-line : goal.overflow_sub-left-in-loop-line
overflow_sub-left-in-loop-line c = search (gap_some, c.in_ok-block.was ∙ ap Ok c.in-Gap.is, c.take_step-step.ensures.read)

pub loop-line-smaller : goal.loop-line-smaller
loop-line-smaller c = search (gap_less, c.in_ok-block.was ∙ ap Ok c.in-Gap.is, c.take_step-step.ensures.read)

pub loop-line-preserved : goal.loop-line-preserved
loop-line-preserved c = search (walk_more, c.in_ok-block.was ∙ ap Ok c.in-Gap.is, c.take_step-step.ensures.read, c.take_step-step.ensures.next)

pub returns : goal.returns
returns c = search walk_past
