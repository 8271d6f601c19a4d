-- Three numbers and no word after them. Assumes nothing.
use Rattle.chain.proofs.QuickLaws.{gap_taken}
use Rattle.chain.proofs.quick_gap.Goals as goal

pub returns : goal.returns
returns c =
    gap_taken _ _ _ c.take_number.ensures _ c.in_ok-a.was _ c.take_number-2.ensures _ c.in_ok-b.was _ c.take_number-3.ensures _ c.in_ok-c.was _ c.rest_of.ensures _ c.in_ok-next.was
