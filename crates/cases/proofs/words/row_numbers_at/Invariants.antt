-- Each word starts at or past the end of the one before, so there are no more words than bytes. Assumes nothing.
use Prim.Native.Nat.{◌-◌, ◌≤◌, max}
use mathlib.Core.Path.{◌≡◌}
use lib.ListN.{length}
use Rattle.cases.proofs.words.row_numbers_at.Given as goal

abbrev pub invariant-loop-w : goal.invariant-loop-w
invariant-loop-w l = (l.n ≤ l.w.start) × (l.w.start ≤ l.w.end) × (l.w.end ≤ max 0 (length l.line)) × (length l.out ≡ length l.initial.out)

abbrev pub decreases-loop-w : goal.decreases-loop-w
decreases-loop-w l = max 0 (length l.line) - l.w.start
