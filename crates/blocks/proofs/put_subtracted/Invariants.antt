-- Storing the rest from here on completes storing all of them. Assumes nothing.
use mathlib.Core.Path.{◌≡◌}
use lib.ListN.{take, drop}
use lib.Seq.{sets}
use Rattle.blocks.specs.Blocks.{subtracted}
use Rattle.blocks.proofs.put_subtracted.Given as goal

abbrev pub invariant-loop-i : goal.invariant-loop-i
invariant-loop-i l = sets l.to l.i (subtracted l.by (drop l.i l.x-items)) ≡ sets l.initial.to 0 (subtracted l.by (take l.count l.from))
