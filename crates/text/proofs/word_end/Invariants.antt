-- The bytes of the word from here on end where those from the start do. Assumes nothing.
use Prim.Native.Nat.{◌≤◌, max}
use mathlib.Core.Path.{◌≡◌}
use Rattle.text.specs.declared.Class.TheVariants.{Word}
use Rattle.text.specs.Scan.{end_of}
use Rattle.text.proofs.word_end.Given as goal

abbrev pub invariant-loop-i : goal.invariant-loop-i
invariant-loop-i l = (l.i ≤ max l.from l.stop) × (end_of Word l.text l.i ≡ end_of Word l.text l.from)
