-- Want of room stands at the end. Assumes nothing.
use Rattle.entries.proofs.WriteLaws.{moved, not_moved}
use Rattle.entries.proofs.refused_at_end.Goals as goal

pub returns-then-number : goal.returns-then-number
returns-then-number c = search moved

pub returns : goal.returns
returns c = search not_moved
