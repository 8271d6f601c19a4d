-- The rest of the line ends with the text, or by a feed. Assumes nothing.
use Rattle.chain.proofs.QuickLaws.{rest_end, rest_feed}
use Rattle.chain.proofs.rest_of.Goals as goal

pub returns-then-text-e : goal.returns-then-text-e
returns-then-text-e c = search rest_end

pub returns : goal.returns
returns c = rw c.then_some.ensures (search rest_feed)
