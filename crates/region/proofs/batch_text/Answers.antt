-- Each way out is one of the definition. Assumes nothing.
use Rattle.lift.proofs.TextLaws.{text_held}
use Rattle.region.proofs.ByteLaws.{room_there, text_no_room, text_refused, text_answered}
use Rattle.region.proofs.batch_text.Goals as goal

pub returns-then-not-rows_fit : goal.returns-then-not-rows_fit
returns-then-not-rows_fit c = search text_no_room

pub put_text-after-requires : goal.put_text-after-requires
put_text-after-requires c = (search text_held, search room_there)

pub returns-in-Err : goal.returns-in-Err
returns-in-Err c = search text_refused

pub returns-in-Ok : goal.returns-in-Ok
returns-in-Ok c = search text_answered
