-- Counts in range are compared exactly, though the sums are capped. Assumes nothing.
use Rattle.psl.proofs.ReadLaws.{counts_are}
use Rattle.psl.proofs.counts_fit.Goals as goal

pub returns : goal.returns
returns c =
    counts_are _ c.requires _ _ _ _ _ _ _ _
    c.sum_of.ensures
    c.gap_count.ensures
    c.gap_bases.ensures
    c.gap_count-2.ensures
    c.gap_bases-2.ensures
