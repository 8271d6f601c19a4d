-- Whatever stores the bytes from here on completes the whole. Assumes nothing.
use Prim.Native.Nat.{◌≤◌}
use lib.ListN.{length, drop}
use Rattle.ledger.specs.Limits.{largest_place}
use Rattle.writing.proofs.PutLaws.{Completes}
use Rattle.writing.proofs.put_each.Given as goal

abbrev pub invariant-loop-b : goal.invariant-loop-b
invariant-loop-b l = (length l.buf ≤ largest_place) × (l.p ≤ largest_place) × Completes (drop l.b-index l.bytes) l.p l.buf l.bytes l.at l.initial.buf
