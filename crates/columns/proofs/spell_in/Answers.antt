-- The word is cut off where the text ends. Assumes nothing.
use Rattle.columns.proofs.ReadLaws.{spell_cut}
use Rattle.columns.proofs.spell_in.Goals as goal

pub returns : goal.returns
returns c = search spell_cut
