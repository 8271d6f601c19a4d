-- Whatever stores the list from here on completes the whole. Assumes nothing.
use borrow.Author.Rules.{rules}
use Rattle.writing.proofs.ListLaws.{list_step, list_done}
use Rattle.writing.proofs.put_list.Goals as goal

pub loop-v-preserved : goal.loop-v-preserved
loop-v-preserved c = (search rules, search rules, search list_step)

pub returns : goal.returns
returns c = search list_done
