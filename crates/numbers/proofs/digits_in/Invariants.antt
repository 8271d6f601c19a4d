-- The value counts the digits passed, and the digits from here on end where all of them end. Assumes nothing.
use Prim.Native.Nat.{◌+◌}
use mathlib.Core.Path.{◌≡◌}
use lib.ListN.{take, drop}
use Rattle.text.specs.declared.Class.TheVariants.{Digit}
use Rattle.text.specs.Scan.{end_of}
use Rattle.numbers.specs.Numbers.{value}
use Rattle.numbers.proofs.digits_in.Given as goal

abbrev pub invariant-loop-k : goal.invariant-loop-k
invariant-loop-k l = (end_of Digit l.text (l.from + l.k) ≡ end_of Digit l.text l.from) × (l.value ≡ value (take l.k (drop l.from l.text)))
