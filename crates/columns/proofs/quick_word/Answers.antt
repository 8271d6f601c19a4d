-- The field as it is read. Assumes nothing.
use Rattle.columns.proofs.QuickLaws.{word_taken}
use Rattle.columns.proofs.quick_word.Goals as goal

pub returns : goal.returns
returns c = search (word_taken, c.ok.ensures.value, c.in_ok-value.was)
