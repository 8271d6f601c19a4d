-- Faults inside, refusals outside: what a caller is told of a fault. And the one shape of a test that may stop.
use Rattle.std.specs.Prelude.{ℕ, Bool, cond}
use Rattle.ledger.specs.declared.Reason.{Reason}
use Rattle.ledger.specs.declared.Fault.{Fault}
use Rattle.ledger.specs.declared.Refusal.{Refusal}

-- a reason with a byte offset
abbrev pub fault_at : Reason → ℕ → Fault
fault_at why at = record { reason = why; place = at }

-- a fault of a text, as its caller is told
abbrev pub refusal_at : Fault → Refusal
refusal_at x = record { reason = x.reason; place = x.place }

-- a refusal of a call without a text
abbrev pub without_text : Reason → Refusal
without_text why = record { reason = why; place = 0 }

-- a test: where it holds go on, else stop
abbrev pub require : {A : Type 0} → Bool → A → A → A
require test stop rest = cond test rest stop
