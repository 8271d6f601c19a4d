-- The stages of any reader: a fault stops it, and what passes goes on. Assumes nothing.
use mathlib.Core.Path.{◌≡◌, refl, ◌∙◌}
use mathlib.Core.Bool.{Bool, true, false}
use mathlib.Core.List.{List}
use Prim.Native.Nat.{ℕ}
use native.Mathlib.Omega.{arith}
use Rattle.ledger.specs.declared.Reason.{Reason}
use Rattle.ledger.specs.declared.Fault.{Fault}
use Rattle.ledger.specs.declared.Refusal.{Refusal}
use Rattle.ledger.specs.Refusals.{without_text, require}
use Rattle.text.specs.Checks.{refused, then_check}
use Rattle.text.specs.Steps.{Staged}
use Rattle.std.specs.Prelude.{Ok, Err, Result, ⊤}

-- a test that went on is true
pub require_goes : {A : Type 0} (t : Bool) (stop rest a : A) → (stop ≡ a → ⊥) → require t stop rest ≡ a → (t ≡ true) × (rest ≡ a)
require_goes true stop rest a apart e = (refl, e)
require_goes false stop rest a apart e = absurd (apart e)

pub require_passes : (t : Bool) (rest : Result ⊤ Fault) (x : Fault) → require t (Err x) rest ≡ Ok tt → (t ≡ true) × (rest ≡ (Ok tt))
require_passes t rest x = require_goes t (Err x) rest (Ok tt) (λ e. let z : ◌≡◌ {A = ℕ} 0 1 = cc in omega arith)

pub require_holds : (t : Bool) (rest : Result ⊤ Refusal) (x : Refusal) → require t (Err x) rest ≡ Ok tt → (t ≡ true) × (rest ≡ (Ok tt))
require_holds t rest x = require_goes t (Err x) rest (Ok tt) (λ e. let z : ◌≡◌ {A = ℕ} 0 1 = cc in omega arith)

-- a stage decides
module _ {A : Type 0} (stop : Fault → A) (c : Result ⊤ Fault) where
  pub stops : (rest : A) (x : Fault) → c ≡ Err x → stop x ≡ then_check stop c rest
  stops rest x e = rw e

  pub goes : (rest a : A) → c ≡ Ok tt → a ≡ rest → a ≡ then_check stop c rest
  goes rest a p e = rw p e

-- what is no fault's answer is the rest's
pub went : {A : Type 0} (stop : Fault → A) (c : Result ⊤ Fault) (rest a : A) → ((x : Fault) → stop x ≡ a → ⊥) → then_check stop c rest ≡ a → (c ≡ (Ok tt)) × (rest ≡ a)
went stop (Ok tt) rest a apart e = (refl, e)
went stop (Err x) rest a apart e = absurd (apart x e)

-- a stage that stops holds nothing of a record, and one that goes on what the rest holds
module _ {R A : Type 0} {acc : R → A} {Held : R → List ℕ → Type 0} {answer : A} {room : List ℕ} where
  pub staged_stops : (stop : Fault → A) (apart : (r : R) (x : Fault) → stop x ≡ acc r → ⊥) (x : Fault) → stop x ≡ answer → Staged acc Held answer room (stop x)
  staged_stops stop apart x e = record { is = e; held = λ r q. absurd (apart r x q) }

  pub staged_goes : {rest : A} (a : A) → rest ≡ answer → Staged acc Held rest room a → Staged acc Held answer room a
  staged_goes a e h = record { is = h.is ∙ e; held = h.held }

-- a test that does not hold stops
pub demand_stops : (t : Bool) (why : Reason) (rest : Result ⊤ Refusal) (x : Refusal) → t ≡ false → x ≡ without_text why → Err x ≡ require t (refused why) rest
demand_stops t why rest x e q = rw (e, q)
