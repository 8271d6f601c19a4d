-- Whatever puts the bytes from here on completes the whole. Assumes nothing.
use Prim.Native.Nat.{◌≤◌}
use mathlib.Core.Path.{◌≡◌}
use lib.ListN.{length, drop}
use Rattle.ledger.specs.Limits.{largest_place}
use Rattle.writing.proofs.PutLaws.{Completes}
use Rattle.cases.specs.Texts.{shown_text}
use Rattle.cases.proofs.puts.put_shown.Given as goal

abbrev pub invariant-loop-b : goal.invariant-loop-b
invariant-loop-b l = (length l.out ≡ length l.initial.out) × (length l.out ≤ largest_place) × (l.p ≤ largest_place) × Completes (shown_text (drop l.b-index l.bytes)) l.p l.out (shown_text l.bytes) l.at l.initial.out
