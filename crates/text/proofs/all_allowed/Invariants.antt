-- The bytes passed and those from here on are allowed exactly when all are. Assumes nothing.
use mathlib.Core.Path.{◌≡◌}
use mathlib.Core.Bool.{◌&&◌}
use lib.ListN.{length}
use lib.Dec.{leb}
use Rattle.text.specs.declared.Class.TheVariants.{Allowed}
use Rattle.text.specs.Scan.{end_of}
use Rattle.text.proofs.all_allowed.Given as goal

abbrev pub invariant-loop-b : goal.invariant-loop-b
invariant-loop-b l = (l.good && leb (length l.text) (end_of Allowed l.text l.b-index)) ≡ leb (length l.text) (end_of Allowed l.text 0)
