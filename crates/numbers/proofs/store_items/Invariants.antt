-- The items from here on, tested and stored, give what the whole list gives. Assumes nothing.
use Prim.Native.Nat.{◌+◌, ◌-◌, ◌≤◌}
use mathlib.Core.Path.{◌≡◌}
use lib.ListN.{length, drop}
use lib.Seq.{sets}
use Rattle.numbers.specs.Lists.{items_of, test_items, good_values}
use Rattle.numbers.proofs.store_items.Given as goal

abbrev pub invariant-loop-i : goal.invariant-loop-i
invariant-loop-i l = (l.n ≤ l.i) × (l.i ≤ length l.word + 1) × (length l.out ≡ length l.initial.out)
    × (test_items l.least l.most l.n l.i (items_of (drop l.i l.word)) ≡ test_items l.least l.most 0 0 (items_of l.word))
    × (sets l.out l.n (good_values l.least l.most (items_of (drop l.i l.word))) ≡ sets l.initial.out 0 (good_values l.least l.most (items_of l.word)))

abbrev pub decreases-loop-i : goal.decreases-loop-i
decreases-loop-i l = length l.word + 1 - l.i
