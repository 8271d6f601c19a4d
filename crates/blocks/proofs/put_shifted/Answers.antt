-- Storing the rest from here on completes storing all of them. Assumes nothing.
use borrow.Author.Rules.{rules}
use Rattle.blocks.proofs.BlockLaws.{shift_over, shift_more, shift_done}
use Rattle.blocks.proofs.put_shifted.Goals as goal

pub returns-then-by-x : goal.returns-then-by-x
returns-then-by-x c = search shift_over

pub loop-i-preserved : goal.loop-i-preserved
loop-i-preserved c = (search rules, search shift_more)

pub returns : goal.returns
returns c = search shift_done
