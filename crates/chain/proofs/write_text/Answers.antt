-- The names and the values, then the lines. Assumes nothing.
use Rattle.chain.proofs.WriteLaws.{names_there, text_wrote}
use Rattle.chain.proofs.write_text.Goals as goal

pub returns : goal.returns
returns c = search (text_wrote, names_there)
