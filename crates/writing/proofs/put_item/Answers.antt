-- The digits, then the comma. Assumes nothing.
use Rattle.writing.proofs.ListLaws.{put_item_is}
use Rattle.writing.proofs.put_item.Goals as goal

pub returns : goal.returns
returns c = search put_item_is
