-- The first i rows stand at the fronts of the three columns.
use Rattle.rows.specs.Staging.{Loaded}
use Rattle.rows.proofs.load.Given as goal

abbrev pub invariant-loop-i : goal.invariant-loop-i
invariant-loop-i l = Loaded l.i l.rows l.initial.t l.t l.initial.q l.q l.initial.s l.s
