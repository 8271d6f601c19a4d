-- Whatever puts the numbers from here on completes the whole. Assumes nothing.
use Prim.Native.Nat.{◌≤◌}
use mathlib.Core.Path.{◌≡◌}
use lib.ListN.{length, drop}
use Rattle.ledger.specs.Limits.{largest_place}
use Rattle.writing.proofs.PutLaws.{Completes}
use Rattle.cases.specs.Texts.{spaced_text}
use Rattle.cases.proofs.puts.put_spaced.Given as goal

abbrev pub invariant-loop-v : goal.invariant-loop-v
invariant-loop-v l = (length l.out ≡ length l.initial.out) × (length l.out ≤ largest_place) × (l.p ≤ largest_place) × Completes (spaced_text (drop l.v-index l.vs)) l.p l.out (spaced_text l.vs) l.at l.initial.out
