-- The first byte is the one that is tested. Assumes nothing.
use Rattle.cases.proofs.CaseLaws.{case_told}
use Rattle.cases.proofs.is_case.Goals as goal

pub returns : goal.returns
returns c = search case_told
