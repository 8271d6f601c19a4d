-- One line after the other. Assumes nothing.
use Rattle.chain.proofs.WriteLaws.{text_put}
use Rattle.chain.proofs.put_text.Goals as goal

pub returns : goal.returns
returns c = search text_put
