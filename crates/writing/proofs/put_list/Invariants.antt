-- Whatever stores the list from here on completes the whole. Assumes nothing.
use Prim.Native.Nat.{◌≤◌}
use lib.ListN.{length, drop}
use Rattle.ledger.specs.Limits.{largest_place}
use Rattle.writing.specs.Digits.{list_text}
use Rattle.writing.proofs.PutLaws.{Completes}
use Rattle.writing.proofs.put_list.Given as goal

abbrev pub invariant-loop-v : goal.invariant-loop-v
invariant-loop-v l = (length l.buf ≤ largest_place) × (l.p ≤ largest_place) × Completes (list_text (drop l.v-index l.vs)) l.p l.buf (list_text l.vs) l.at l.initial.buf
