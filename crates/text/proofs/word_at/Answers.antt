-- `text::word_at` meets its contract: after i turns the word in hand is word i, and an empty word is every later one too. Assumes nothing.
use borrow.Author.Rules.{rules}
use Rattle.text.specs.Words.{word_at}
use Rattle.text.proofs.Laws.{word_next, word_there, word_stays}
use Rattle.text.proofs.word_at.Goals as goal

pub loop-init : goal.loop-init
unfolding word_at
loop-init c = (c.next_word-w.ensures.is, search rules, search rules, search rules)

pub returns-then-w : goal.returns-then-w
returns-then-w c = record { is = search word_stays; low = search rules; mid = search rules; high = search rules }

pub loop-preserved : goal.loop-preserved
loop-preserved c = (search word_next, search rules, search rules, search rules)

pub returns : goal.returns
returns c = record { is = search word_there; low = search rules; mid = search rules; high = search rules }
