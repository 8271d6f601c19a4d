-- Whatever stores the rows from here on completes the whole. Assumes nothing.
use Prim.Native.Nat.{◌≤◌}
use lib.ListN.{length, drop}
use Rattle.ledger.specs.Limits.{largest_place}
use Rattle.blocks.specs.Rows.{table_of}
use Rattle.writing.proofs.PutLaws.{Completes}
use Rattle.binary.specs.Bytes.{words_bytes, rows_numbers}
use Rattle.binary.proofs.put_each_row.Given as goal

abbrev pub invariant-loop-i : goal.invariant-loop-i
invariant-loop-i l = (length l.buf ≤ largest_place) × (l.p ≤ largest_place) × Completes (words_bytes (rows_numbers (drop l.i (table_of l.targets l.queries l.sizes)))) l.p l.buf (words_bytes (rows_numbers (table_of l.targets l.queries l.sizes))) l.at l.initial.buf
