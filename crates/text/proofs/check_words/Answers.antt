-- The two tests in the ledger's order. Assumes nothing.
use Rattle.text.proofs.CheckLaws.{words_many, words_good, words_bad}
use Rattle.text.proofs.check_words.Goals as goal

pub returns-then-most-n : goal.returns-then-most-n
returns-then-most-n c = search words_many

pub returns-then-good : goal.returns-then-good
returns-then-good c = search words_good

pub returns : goal.returns
returns c = search words_bad
