-- The space, then the letter. Assumes nothing.
use Rattle.cases.proofs.CaseLaws.{strand_put}
use Rattle.cases.proofs.puts.put_strand.Goals as goal

pub returns : goal.returns
returns c = search strand_put
