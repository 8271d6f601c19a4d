-- What a caller is told of a reading, and what it shows of the reading. Assumes nothing.
use mathlib.Core.Path.{◌≡◌, refl, sym, ap, ◌∙◌}
use mathlib.Core.List.{List}
use Prim.Native.Nat.{ℕ}
use native.Mathlib.Omega.{arith}
use Rattle.ledger.specs.declared.Fault.{Fault}
use Rattle.ledger.specs.declared.Refusal.{Refusal}
use Rattle.ledger.specs.Refusals.{refusal_at}
use Rattle.text.specs.Checks.{then_check, room_check}
use Rattle.blocks.specs.Readers.{then_room}
use Rattle.chain.specs.declared.Chain.{Chain}
use Rattle.chain.specs.Read.{chain_stages, chain_answer, chain_check, on_reading, on_answer, chain_roomed, chain_read}
use Rattle.std.specs.Prelude.{Ok, Err, Result, ⊤}

-- a fault is no record
pub read_apart : (r : Chain) (x : Fault) → Err x ≡ Ok r → ⊥
read_apart r x e = let z : ◌≡◌ {A = ℕ} 0 1 = cc in omega arith

pub accepted_apart : (r : Chain) (x : Refusal) → Err x ≡ Ok r → ⊥
accepted_apart r x e = let z : ◌≡◌ {A = ℕ} 0 1 = cc in omega arith

-- what is told of a record, and of a fault
pub told_ok : (x : Result Chain Fault) (r : Chain) → x ≡ Ok r → Ok r ≡ chain_answer x
told_ok x r e = sym (ap chain_answer e)

pub told_fault : (x : Result Chain Fault) (y : Fault) → x ≡ Err y → Err (refusal_at y) ≡ chain_answer x
told_fault x y e = sym (ap chain_answer e)

pub told_same : (X : Type 0) (x : Result Chain Fault) (f : Chain → X) (y : X) → on_answer X (chain_answer x) f y ≡ on_reading X x f y
told_same X (Ok r) f y = refl
told_same X (Err z) f y = refl

-- and what the answer shows
pub told_read : (x : Result Chain Fault) (r : Chain) → chain_answer x ≡ Ok r → x ≡ Ok r
told_read (Ok q) r e = cc
told_read (Err y) r e = absurd (accepted_apart r (refusal_at y) e)

-- A TEXT IS ACCEPTED WHERE ITS STAGES READ A RECORD, and refused where they find a fault
module _ (s : List ℕ) where
  pub checked_of : (r : Chain) → chain_check s ≡ Ok r → chain_stages s ≡ Ok r
  unfolding chain_check
  checked_of r e = told_read (chain_stages s) r e

  pub checked_is : (r : Chain) → chain_stages s ≡ Ok r → chain_check s ≡ Ok r
  unfolding chain_check
  checked_is r e = ap chain_answer e

  pub refused_is : (x : Fault) → chain_stages s ≡ Err x → chain_check s ≡ Err (refusal_at x)
  unfolding chain_check
  refused_is x e = ap chain_answer e

  -- the reader by the text checker
  pub read_checked : (room : ℕ) → chain_read s room ≡ then_room on_answer (λ x. Err (refusal_at x)) (λ (r : Chain). r.blockCount) s room (chain_check s)
  unfolding chain_read chain_roomed chain_check
  read_checked room = go (chain_stages s)
    where
      go : (x : Result Chain Fault) → chain_answer (then_room on_reading Err (λ (r : Chain). r.blockCount) s room x) ≡ then_room on_answer (λ y. Err (refusal_at y)) (λ (r : Chain). r.blockCount) s room (chain_answer x)
      go (Ok r) = roomed (room_check s r.blockCount room)
        where
          roomed : (c : Result ⊤ Fault) → chain_answer (then_check Err c (Ok r)) ≡ then_check (λ y. Err (refusal_at y)) c (Ok r)
          roomed (Ok tt) = refl
          roomed (Err y) = refl
      go (Err y) = refl

-- the fault of a text that is refused
pub record Faults (s : List ℕ) (x : Refusal) : Type 0 where
  pub fault : Fault
  pub stages : chain_stages s ≡ Err fault
  pub told : x ≡ refusal_at fault

pub refused_of : (s : List ℕ) (x : Refusal) → chain_check s ≡ Err x → Faults s x
unfolding chain_check
refused_of s x e = go (chain_stages s) refl e
  where
    go : (y : Result Chain Fault) → chain_stages s ≡ y → chain_answer y ≡ Err x → Faults s x
    go (Ok r) p q = absurd (accepted_apart r x (sym q))
    go (Err y) p q = record { fault = y; stages = p; told = cc }
