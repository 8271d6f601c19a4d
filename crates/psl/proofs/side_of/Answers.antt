-- Each field by its column. Assumes nothing.
use Rattle.psl.specs.Records.{side_of}
use Rattle.psl.proofs.side_of.Goals as goal

pub returns : goal.returns
unfolding side_of
returns c = rw (c.of_values.ensures, c.place_of.ensures, c.value_of.ensures, c.value_of-2.ensures, c.value_of-3.ensures, c.value_of-4.ensures)
