-- The second name is stored past the first. Assumes nothing.
use Rattle.columns.proofs.NameLaws.{names_stored}
use Rattle.columns.proofs.put_names.Goals as goal

pub returns : goal.returns
returns c = search names_stored
