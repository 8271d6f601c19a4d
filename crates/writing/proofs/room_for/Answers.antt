-- The tests in the ledger's order. Assumes nothing.
use Rattle.writing.proofs.PutLaws.{room_long, room_short, room_enough}
use Rattle.writing.proofs.room_for.Goals as goal

pub returns-then-n-gt-TEXT_LIMIT : goal.returns-then-n-gt-TEXT_LIMIT
returns-then-n-gt-TEXT_LIMIT c = search room_long

pub returns-then-room-n : goal.returns-then-room-n
returns-then-room-n c = search room_short

pub returns : goal.returns
returns c = search room_enough
