-- The starts are stored past the sizes. Assumes nothing.
use Rattle.bed.proofs.WriteLaws.{lists_put}
use Rattle.bed.proofs.put_lists.Goals as goal

pub returns : goal.returns
returns c = search lists_put
