-- The bytes of the word from here on end where those from the start do. Assumes nothing.
use Rattle.text.proofs.Laws.{near_found, near_more, near_past}
use borrow.Author.Rules.{rules}
use Rattle.text.proofs.word_end.Goals as goal

pub returns-then-not-is_in : goal.returns-then-not-is_in
returns-then-not-is_in c = record { is = search near_found; low = search rules; high = search rules }

pub loop-i-preserved : goal.loop-i-preserved
loop-i-preserved c = (search rules, search near_more)

pub returns : goal.returns
returns c = record { is = search near_past; low = search rules; high = search rules }
