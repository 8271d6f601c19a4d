-- `text::count_words` meets its contract: the words counted, and those from the word in hand on, are all the line's. Assumes nothing.
use borrow.Author.Rules.{rules}
use Rattle.text.proofs.PieceLaws.{word_again, count_first, count_next, count_done}
use Rattle.text.proofs.count_words.Goals as goal

pub loop-w-init : goal.loop-w-init
loop-w-init c = (search word_again, search count_first, search rules, search rules, search rules)

pub loop-w-preserved : goal.loop-w-preserved
loop-w-preserved c = (search word_again, search count_next, search rules, search rules, search rules)

pub returns : goal.returns
returns c = search count_done
