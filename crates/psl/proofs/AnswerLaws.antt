-- What a caller is told of a reading, and what the reading was. Assumes nothing.
use mathlib.Core.Path.{◌≡◌, refl, sym, ap}
use Prim.Native.Nat.{ℕ}
use native.Mathlib.Omega.{arith}
use Rattle.ledger.specs.declared.Fault.{Fault}
use Rattle.ledger.specs.Refusals.{refusal_at}
use Rattle.psl.specs.declared.Psl.{Psl}
use Rattle.psl.specs.Read.{psl_answer, on_reading, on_answer}
use Rattle.std.specs.Prelude.{Ok, Err, Result}

-- a fault is no record
pub read_apart : (r : Psl) (x : Fault) → Err x ≡ Ok r → ⊥
read_apart r x e = let z : ◌≡◌ {A = ℕ} 0 1 = cc in omega arith

-- what was read is what was told
pub told_read : (a : Result Psl Fault) (r : Psl) → psl_answer a ≡ Ok r → a ≡ Ok r
told_read (Ok q) r e = cc
told_read (Err x) r e = absurd (let z : ◌≡◌ {A = ℕ} 0 1 = cc in omega arith)

-- what is told of a record, and of a fault
pub told_ok : (x : Result Psl Fault) (r : Psl) → x ≡ Ok r → Ok r ≡ psl_answer x
told_ok x r e = sym (ap psl_answer e)

pub told_fault : (x : Result Psl Fault) (y : Fault) → x ≡ Err y → Err (refusal_at y) ≡ psl_answer x
told_fault x y e = sym (ap psl_answer e)

pub told_same : (X : Type 0) (a : Result Psl Fault) (some : Psl → X) (none : X) → on_answer X (psl_answer a) some none ≡ on_reading X a some none
told_same X (Ok r) some none = refl
told_same X (Err x) some none = refl
