-- Each fixed word by its bytes. Assumes nothing.
use Rattle.kinds.proofs.WordLaws.{put_chain, put_plus}
use Rattle.kinds.proofs.put_fixed.Goals as goal

pub returns-in-Chain : goal.returns-in-Chain
returns-in-Chain c = search (put_chain, put_plus)

pub returns-in-Plus : goal.returns-in-Plus
returns-in-Plus c = search (put_chain, put_plus)
