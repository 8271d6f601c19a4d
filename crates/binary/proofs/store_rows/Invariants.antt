-- Storing the rows that are left makes the whole. Assumes nothing.
use Rattle.binary.proofs.WordLaws.{RowsStoring}
use Rattle.binary.proofs.store_rows.Given as goal

abbrev pub invariant-loop-i : goal.invariant-loop-i
invariant-loop-i l = RowsStoring l.targets l.queries l.sizes l.at l.initial.buf l.i l.buf
