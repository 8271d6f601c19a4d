-- Each part by its columns. Assumes nothing.
use Rattle.psl.specs.Records.{psl_record}
use Rattle.psl.proofs.record_of.Goals as goal

pub returns : goal.returns
unfolding psl_record
returns c = rw (c.counts_of-counts.ensures, c.of_value-strand.ensures, c.value_of.ensures, c.side_of-query.ensures, c.side_of-target.ensures, c.value_of-2.ensures)
