-- The columns passed so far, and what they stored. Assumes nothing.
use Prim.Native.Nat.{◌*◌, ◌≤◌}
use Rattle.columns.specs.Columns.{few_blocks}
use Rattle.columns.proofs.QuickLaws.{Passed}
use Rattle.columns.proofs.quick_columns.Given as goal

abbrev pub invariant-loop-k : goal.invariant-loop-k
invariant-loop-k l = (l.base ≤ few_blocks * l.k)
    × Passed l.table l.text l.from l.initial.out l.initial.lists l.k l.count l.base l.at l.out l.lists
