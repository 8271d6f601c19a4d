-- The line read gives the record and its lists, and the next stage goes on. Assumes nothing.
use Rattle.std.proofs.lemmas.Result.{err_from_is_err_and}
use Rattle.psl.specs.Table.{psl_columns}
use Rattle.psl.proofs.ColumnLaws.{stage_ready, stage_stops, stage_on}
use Rattle.psl.proofs.stage.Goals as goal

pub after_line-requires : goal.after_line-requires
unfolding psl_columns
after_line-requires c = search (stage_ready, c.in_ok-walk_text.was)

pub returns-in_err-walk_text : goal.returns-in_err-walk_text
unfolding psl_columns
returns-in_err-walk_text c =
    let p = err_from_is_err_and c.from_residual.result c.from_residual.ensures.1 in
    rw (p.1, p.2) (search (stage_stops, c.in_err-walk_text.was))

pub returns : goal.returns
unfolding psl_columns
returns c = search (stage_on, c.in_ok-walk_text.was)
