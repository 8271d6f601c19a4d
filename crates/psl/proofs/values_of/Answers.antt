-- The values by column, then the place of the second name. Assumes nothing.
use Rattle.psl.specs.Steps.{psl_values}
use Rattle.psl.proofs.values_of.Goals as goal

pub returns : goal.returns
unfolding psl_values
returns c = rw (c.put_values.ensures, c.letter.ensures)
