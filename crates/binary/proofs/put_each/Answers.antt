-- Whatever stores the numbers from here on completes the whole. Assumes nothing.
use borrow.Author.Rules.{rules}
use Rattle.binary.proofs.ByteLaws.{words_step, words_done}
use Rattle.binary.proofs.put_each.Goals as goal

pub loop-v-preserved : goal.loop-v-preserved
loop-v-preserved c = (search rules, search rules, search words_step)

pub returns : goal.returns
returns c = search words_done
