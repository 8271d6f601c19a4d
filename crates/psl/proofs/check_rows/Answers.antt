-- The two tests in the ledger's order, the last one innermost, on the lists in the working room. Assumes nothing.
use Rattle.psl.proofs.ReadLaws.{rows_checked}
use Rattle.psl.proofs.check_rows.Goals as goal

pub returns : goal.returns
returns c = search rows_checked
