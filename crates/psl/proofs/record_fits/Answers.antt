-- What is tested first keeps the counts in range for the rest. Assumes nothing.
use Rattle.psl.proofs.CheckLaws.{head_bad, head_range, record_is}
use Rattle.psl.proofs.record_fits.Goals as goal

pub returns-then-not-head_fits : goal.returns-then-not-head_fits
returns-then-not-head_fits c = search head_bad

pub counts_fit-requires : goal.counts_fit-requires
counts_fit-requires c = search head_range

pub returns : goal.returns
returns c = search record_is
