-- Whatever stores the numbers from here on completes the whole. Assumes nothing.
use Prim.Native.Nat.{◌≤◌}
use lib.ListN.{length, drop}
use Rattle.ledger.specs.Limits.{largest_place}
use Rattle.writing.proofs.PutLaws.{Completes}
use Rattle.binary.specs.Bytes.{words_bytes}
use Rattle.binary.proofs.put_each.Given as goal

abbrev pub invariant-loop-v : goal.invariant-loop-v
invariant-loop-v l = (length l.buf ≤ largest_place) × (l.p ≤ largest_place) × Completes (words_bytes (drop l.v-index l.vs)) l.p l.buf (words_bytes l.vs) l.at l.initial.buf
