-- The label and the number. Assumes nothing.
use Rattle.cases.proofs.CaseLaws.{reason_put}
use Rattle.cases.proofs.puts.put_reason.Goals as goal

pub returns : goal.returns
returns c = search reason_put
