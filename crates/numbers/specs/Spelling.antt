-- What a word spells: a value, or a fault with its place in the word.
use Rattle.std.specs.Prelude.{ℕ, Ok, Err, Result}
use Rattle.ledger.specs.declared.Fault.{Fault}

-- where in the word a fault stands
abbrev pub fault_in : Result ℕ Fault → ℕ
fault_in (Ok v) = 0
fault_in (Err x) = x.place
