-- 11, and the tally as it was. Assumes nothing.
use Rattle.region.proofs.ReachLaws.{room_none}
use Rattle.region.proofs.no_room.Goals as goal

pub returns : goal.returns
returns c = search room_none
