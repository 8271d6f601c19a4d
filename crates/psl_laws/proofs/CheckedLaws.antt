-- The text checker's answer, its stages, and the reader's answer with room. Assumes nothing.
use mathlib.Core.Path.{◌≡◌, refl, sym, ap, ◌∙◌}
use mathlib.Core.List.{List}
use Prim.Native.Nat.{ℕ, ◌≤◌, ◌<◌}
use native.Mathlib.Omega.{arith}
use lib.ListN.{length}
use borrow.Author.Tests.{le-leb, lt-leb}
use Rattle.ledger.specs.declared.Reason.TheVariants.{NoRoom}
use Rattle.ledger.specs.declared.Fault.{Fault}
use Rattle.ledger.specs.declared.Refusal.{Refusal}
use Rattle.ledger.specs.Refusals.{fault_at, refusal_at}
use Rattle.psl.specs.declared.Psl.{Psl}
use Rattle.psl.specs.Read.{psl_stages, psl_answer, psl_check, psl_read}
use Rattle.psl.proofs.AnswerLaws.{told_read}
use Rattle.std.specs.Prelude.{Ok, Err, Result}

-- the fault behind a refusal
pub record FaultTold (a : Result Psl Fault) (y : Refusal) : Type 0 where
  pub fault : Fault
  pub was : a ≡ Err fault
  pub told : y ≡ refusal_at fault

told_fault : (a : Result Psl Fault) (y : Refusal) → psl_answer a ≡ Err y → FaultTold a y
told_fault (Ok r) y e = absurd (let z : ◌≡◌ {A = ℕ} 0 1 = cc in omega arith)
told_fault (Err x) y e = record { fault = x; was = refl; told = cc }

-- what the text checker answers is what its stages found
module _ (s : List ℕ) where
  pub checked_of : (r : Psl) → psl_check s ≡ Ok r → psl_stages s ≡ Ok r
  unfolding psl_check
  checked_of r e = told_read (psl_stages s) r e

  pub checked_is : (r : Psl) → psl_stages s ≡ Ok r → psl_check s ≡ Ok r
  unfolding psl_check
  checked_is r e = ap psl_answer e

  pub refused_of : (y : Refusal) → psl_check s ≡ Err y → FaultTold (psl_stages s) y
  unfolding psl_check
  refused_of y e = told_fault (psl_stages s) y e

  pub refused_is : (x : Fault) → psl_stages s ≡ Err x → psl_check s ≡ Err (refusal_at x)
  unfolding psl_check
  refused_is x e = ap psl_answer e

  -- and what the reader answers goes by that and by the room
  module _ (room : ℕ) where
    pub read_roomy : (r : Psl) → psl_check s ≡ Ok r → r.blockCount ≤ room → psl_read s room ≡ Ok r
    unfolding psl_read
    read_roomy r e h = rw (checked_of r e, le-leb r.blockCount room h)

    pub read_short : (r : Psl) → psl_check s ≡ Ok r → room < r.blockCount → psl_read s room ≡ Err (refusal_at (fault_at NoRoom (length s)))
    unfolding psl_read
    read_short r e h = rw (checked_of r e, lt-leb r.blockCount room h)

    read_fault : (x : Fault) → psl_stages s ≡ Err x → psl_read s room ≡ Err (refusal_at x)
    unfolding psl_read
    read_fault x e = rw e

    pub read_refused : (y : Refusal) → psl_check s ≡ Err y → psl_read s room ≡ Err y
    read_refused y e =
        let f = refused_of y e in
        read_fault f.fault f.was ∙ sym (ap Err f.told)
