-- `text::next_word` meets its contract: the two scans are the word's two places. Assumes nothing.
use Rattle.text.specs.Words.{next_word}
use borrow.Author.Rules.{rules}
use Rattle.text.proofs.next_word.Goals as goal

pub returns : goal.returns
unfolding next_word
returns c = record { is = cc; low = search rules; mid = search rules; high = search rules }
