-- The word's bytes are read as a number. Assumes nothing.
use Rattle.cases.proofs.CaseLaws.{number_known}
use Rattle.cases.proofs.words.number_at.Goals as goal

pub returns : goal.returns
returns c = search number_known
