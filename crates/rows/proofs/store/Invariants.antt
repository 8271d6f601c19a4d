-- The first i rows are those of the three columns.
use mathlib.Core.Path.{◌≡◌}
use Rattle.rows.specs.Staging.{front_stored}
use Rattle.rows.proofs.store.Given as goal

abbrev pub invariant-loop-i : goal.invariant-loop-i
invariant-loop-i l = l.row-items ≡ front_stored l.i l.t l.q l.s l.initial.row-items
