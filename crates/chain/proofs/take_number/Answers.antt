-- The number at the word's first byte. Assumes nothing.
use Rattle.chain.proofs.QuickLaws.{word_taken}
use Rattle.chain.proofs.take_number.Goals as goal

pub returns : goal.returns
returns c = search word_taken
