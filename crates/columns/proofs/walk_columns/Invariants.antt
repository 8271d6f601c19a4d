-- The columns from here on, and what they store, give what the whole table gives. Assumes nothing.
use Prim.Native.Nat.{◌*◌, ◌≤◌}
use mathlib.Core.Path.{◌≡◌}
use lib.ListN.{drop}
use lib.Seq.{sets}
use Rattle.ledger.specs.Limits.{block_limit}
use Rattle.columns.specs.Columns.{columns_from, values_from, lists_from}
use Rattle.columns.proofs.walk_columns.Given as goal

abbrev pub invariant-loop-k : goal.invariant-loop-k
invariant-loop-k l = (l.base ≤ block_limit * l.k)
    × (columns_from (drop l.k l.table) l.count l.text l.at ≡ columns_from l.table 0 l.text l.from)
    × (sets l.out (2 * l.k) (values_from (drop l.k l.table) l.count l.text l.at) ≡ sets l.initial.out 0 (values_from l.table 0 l.text l.from))
    × (lists_from (drop l.k l.table) l.count l.text l.at l.base l.lists ≡ lists_from l.table 0 l.text l.from 0 l.initial.lists)
