-- The part is cut off where the text ends. Assumes nothing.
use Rattle.kinds.proofs.WordLaws.{put_part}
use Rattle.kinds.proofs.put_name.Goals as goal

pub returns : goal.returns
returns c = search put_part
