-- The words passed are plain, and their values stand in the room. Assumes nothing.
use Prim.Native.Nat.{◌+◌, ◌-◌, ◌≤◌, min}
use mathlib.Core.Path.{◌≡◌}
use mathlib.Core.List.{◌++◌}
use lib.ListN.{length, take, drop}
use Rattle.text.specs.declared.Class.TheVariants.{Line, Allowed}
use Rattle.text.specs.Scan.{end_of}
use Rattle.text.specs.Pieces.{words_of}
use Rattle.number_line.specs.Walks.{good_in}
use Rattle.number_line.proofs.quick_line.Given as goal

abbrev pub invariant-loop-at : goal.invariant-loop-at
invariant-loop-at l = (l.at ≤ length l.line + 1) × (l.n ≤ length l.room) × (length l.room ≡ length l.initial.room) × (end_of Allowed l.line (min l.at (length l.line)) ≡ end_of Allowed l.line 0) × (end_of Line l.line (min l.at (length l.line)) ≡ end_of Line l.line 0) × (l.n + length (words_of (drop l.at l.line)) ≡ length (words_of l.line)) × (take l.n l.room ++ good_in (drop l.at l.line) ≡ good_in l.line)

abbrev pub decreases-loop-at : goal.decreases-loop-at
decreases-loop-at l = length l.line + 1 - l.at
