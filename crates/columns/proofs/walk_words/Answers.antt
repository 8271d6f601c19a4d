-- The walk first, then what the count says. Assumes nothing.
use Rattle.columns.proofs.OneLineLaws.{words}
use Rattle.columns.proofs.walk_words.Goals as goal

pub returns-then-w : goal.returns-then-w
returns-then-w c = search words

pub returns-in-Err : goal.returns-in-Err
returns-in-Err c = search words

pub returns-else-w : goal.returns-else-w
returns-else-w c = search words
