-- Each word starts at or past the end of the one before and ends inside the text. Assumes nothing.
use Prim.Native.Nat.{◌-◌, ◌≤◌, max}
use mathlib.Core.Path.{◌≡◌}
use lib.ListN.{length}
use Rattle.samples.proofs.put_words.Given as goal

abbrev pub invariant-loop-w : goal.invariant-loop-w
invariant-loop-w l = (l.w.start ≤ l.w.end) × (l.w.end ≤ max l.line (length l.s)) × (length l.out ≡ length l.initial.out)

abbrev pub decreases-loop-w : goal.decreases-loop-w
decreases-loop-w l = max l.line (length l.s) - l.w.start
