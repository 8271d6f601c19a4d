-- The part is cut off where the table ends. Assumes nothing.
use Rattle.kinds.proofs.WordLaws.{put_list_part}
use Rattle.kinds.proofs.put_items.Goals as goal

pub returns : goal.returns
returns c = search put_list_part
