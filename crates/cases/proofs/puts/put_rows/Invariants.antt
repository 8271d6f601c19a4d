-- Whatever puts the rows from here on completes the whole. Assumes nothing.
use Prim.Native.Nat.{◌-◌, ◌≤◌}
use mathlib.Core.Path.{◌≡◌}
use lib.ListN.{length}
use Rattle.ledger.specs.Limits.{largest_place}
use Rattle.writing.proofs.PutLaws.{Completes}
use Rattle.cases.specs.Texts.{rows_text}
use Rattle.cases.proofs.puts.put_rows.Given as goal

abbrev pub invariant-loop-i : goal.invariant-loop-i
invariant-loop-i l = (length l.out ≡ length l.initial.out) × (length l.out ≤ largest_place) × (l.p ≤ largest_place) × Completes (rows_text (l.n - l.i) l.i l.targets l.queries l.sizes) l.p l.out (rows_text l.n 0 l.targets l.queries l.sizes) l.at l.initial.out
