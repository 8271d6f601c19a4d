-- Its length decides. Assumes nothing.
use Rattle.kinds.proofs.SpellLaws.{name_read}
use Rattle.kinds.proofs.read_name.Goals as goal

pub returns : goal.returns
returns c = search name_read
