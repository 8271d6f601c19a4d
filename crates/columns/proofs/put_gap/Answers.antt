-- Nothing before the first column, the separator before any other. Assumes nothing.
use Rattle.columns.proofs.LineLaws.{gap_none, gap_some}
use native.Mathlib.Omega.{arith}
use Rattle.columns.proofs.put_gap.Goals as goal

pub returns-then-k-eq0 : goal.returns-then-k-eq0
returns-then-k-eq0 c = gap_none _ _ _ _ c.if-k-eq0.true (omega arith) (omega arith)

pub returns : goal.returns
returns c = search gap_some
