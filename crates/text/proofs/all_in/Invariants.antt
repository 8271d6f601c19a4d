-- The bytes passed and those from here on are of the class exactly when all are. Assumes nothing.
use mathlib.Core.Path.{◌≡◌}
use mathlib.Core.Bool.{◌&&◌}
use lib.ListN.{length}
use lib.Dec.{leb}
use Rattle.text.specs.Scan.{end_of}
use Rattle.text.proofs.all_in.Given as goal

abbrev pub invariant-loop-b : goal.invariant-loop-b
invariant-loop-b l = (l.good && leb (length l.part) (end_of l.class l.part l.b-index)) ≡ leb (length l.part) (end_of l.class l.part 0)
