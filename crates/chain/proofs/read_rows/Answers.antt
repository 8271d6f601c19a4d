-- The text checker, or the stages. Assumes nothing.
use Rattle.std.proofs.lemmas.Result.{err_from_is_err_and}
use Rattle.chain.proofs.AnswerLaws.{told_ok, told_fault}
use Rattle.chain.proofs.StageLaws.{room_told, room_other}
use Rattle.chain.proofs.read_rows.Goals as goal

pub returns-then-rows-ne-ROOM : goal.returns-then-rows-ne-ROOM
returns-then-rows-ne-ROOM c = search room_other

pub returns-in_err-stage : goal.returns-in_err-stage
returns-in_err-stage c =
    let p = err_from_is_err_and c.from_residual.result c.from_residual.ensures.1 in
    rw (p.1, p.2) (search (room_told, told_fault, c.in_err-stage.was))

pub returns : goal.returns
returns c = search (room_told, told_ok, c.in_ok-stage.was)
