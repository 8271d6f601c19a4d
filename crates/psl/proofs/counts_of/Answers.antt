-- Each count by its column. Assumes nothing.
use Rattle.psl.specs.Records.{counts_of}
use Rattle.psl.proofs.counts_of.Goals as goal

pub returns : goal.returns
unfolding counts_of
returns c = rw (c.value_of.ensures, c.value_of-2.ensures, c.value_of-3.ensures, c.value_of-4.ensures, c.value_of-5.ensures, c.value_of-6.ensures, c.value_of-7.ensures, c.value_of-8.ensures)
