-- Whatever stores the bytes that are left completes the number. Assumes nothing.
use Prim.Native.Nat.{◌-◌, ◌≤◌}
use lib.ListN.{length}
use Rattle.ledger.specs.Limits.{largest_place}
use Rattle.writing.proofs.PutLaws.{Completes}
use Rattle.binary.specs.Bytes.{low_bytes}
use Rattle.binary.proofs.put_low.Given as goal

abbrev pub invariant-loop : goal.invariant-loop
invariant-loop l = (length l.buf ≤ largest_place) × (l.p ≤ largest_place) × Completes (low_bytes (l.count - l.counter) l.rest) l.p l.buf (low_bytes l.count l.n) l.at l.initial.buf
