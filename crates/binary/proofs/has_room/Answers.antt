-- Room for so many words, by a quotient, so that no product is too large. Assumes nothing.
use Rattle.binary.proofs.WordLaws.{room_none, room_is}
use Rattle.binary.proofs.has_room.Goals as goal

pub returns-then-n-at : goal.returns-then-n-at
returns-then-n-at c = search room_none

pub returns : goal.returns
returns c = search room_is
