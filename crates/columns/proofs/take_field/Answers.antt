-- The field as it is read. Assumes nothing.
use Rattle.columns.proofs.WalkLaws.{taken_as}
use Rattle.columns.proofs.take_field.Goals as goal

pub returns : goal.returns
returns c = rw c.ok.ensures.value (search taken_as)
