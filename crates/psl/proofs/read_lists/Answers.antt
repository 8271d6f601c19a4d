-- The text checker, or the stages. Assumes nothing.
use Rattle.std.proofs.lemmas.Result.{err_from_is_err_and}
use Rattle.psl.proofs.AnswerLaws.{told_ok, told_fault}
use Rattle.psl.proofs.ReadLaws.{room_read, room_other}
use Rattle.psl.proofs.read_lists.Goals as goal

pub returns-then-lists-ne-ROOM : goal.returns-then-lists-ne-ROOM
returns-then-lists-ne-ROOM c = search room_other

pub returns-in_err-stage : goal.returns-in_err-stage
returns-in_err-stage c =
    let p = err_from_is_err_and c.from_residual.result c.from_residual.ensures.1 in
    rw (p.1, p.2) (search (room_read, told_fault, c.in_err-stage.was))

pub returns : goal.returns
returns c = search (room_read, told_ok, c.in_ok-stage.was)
