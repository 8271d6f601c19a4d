-- Each fixed word is compared with its bytes. Assumes nothing.
use Rattle.kinds.proofs.SpellLaws.{fixed_chain, fixed_plus}
use Rattle.kinds.proofs.is_fixed.Goals as goal

pub returns-in-Chain : goal.returns-in-Chain
returns-in-Chain c = search (fixed_chain, fixed_plus)

pub returns-in-Plus : goal.returns-in-Plus
returns-in-Plus c = search (fixed_chain, fixed_plus)
