-- All of them, or too little room. Assumes nothing.
use Rattle.number_line.proofs.ReadLaws.{handed_put, handed_full}
use Rattle.number_line.proofs.hand_over.Goals as goal

pub returns-then-numbers_fit : goal.returns-then-numbers_fit
returns-then-numbers_fit c = search handed_put

pub returns : goal.returns
returns c = search handed_full
