-- One number and no word after it. Assumes nothing.
use Rattle.chain.proofs.QuickLaws.{last_taken}
use Rattle.chain.proofs.quick_last.Goals as goal

pub returns : goal.returns
returns c = last_taken _ _ _ c.take_number.ensures _ c.in_ok-a.was _ c.rest_of.ensures _ c.in_ok-rest_of.was
