-- Room for so many bytes, by a difference, so that no sum is too large. Assumes nothing.
use Rattle.writing.proofs.StoreLaws.{room_none, room_is}
use Rattle.writing.proofs.has_room.Goals as goal

pub returns-then-room-at : goal.returns-then-room-at
returns-then-room-at c = search room_none

pub returns : goal.returns
returns c = search room_is
