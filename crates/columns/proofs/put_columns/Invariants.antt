-- Whatever stores the columns from here on completes the line. Assumes nothing.
use Prim.Native.Nat.{◌*◌, ◌≤◌}
use lib.ListN.{length}
use Rattle.ledger.specs.Limits.{block_limit, largest_place}
use Rattle.writing.proofs.PutLaws.{Completes}
use Rattle.columns.specs.Lines.{line_text}
use Rattle.columns.proofs.LineLaws.{rest}
use Rattle.columns.proofs.put_columns.Given as goal

abbrev pub invariant-loop-k : goal.invariant-loop-k
invariant-loop-k l = (l.base ≤ block_limit * l.k) × (length l.buf ≤ largest_place) × (l.p ≤ largest_place)
    × Completes (rest l.table l.k l.base l.sep l.text l.values l.lists) l.p l.buf (line_text l.table l.sep l.text l.values l.lists) l.at l.initial.buf
