-- Lifting a position: the refusals in the ledger's order, each at place 0, then its partner and the drift.
use Rattle.std.specs.Prelude.{ℕ, List, ltb, pos, ◌-ℤ◌, Ok, Err, Some, None, Result, Option, ℤ}
use Rattle.ledger.specs.Refusals.{without_text, require}
use Rattle.ledger.specs.declared.Reason.{Reason}
use Rattle.ledger.specs.declared.Reason.TheVariants.{BlockRules, NoPair, OutsideTarget}
use Rattle.ledger.specs.declared.Row.{Row}
use Rattle.chain.specs.declared.Chain.{Chain}
use Rattle.lift.specs.Accepted.{accepted}
use Rattle.lift.specs.Pairs.{pairs, partner_of}
use Rattle.ledger.specs.declared.Refusal.{Refusal}

abbrev pub not_lifted : Reason → Result (ℕ × ℤ) Refusal
not_lifted why = Err (without_text why)

-- the partner and the drift, partner minus position, a signed number
abbrev pub at_partner : ℕ → Option ℕ → Result (ℕ × ℤ) Refusal
at_partner p (Some q) = Ok (q, pos q -ℤ pos p)
at_partner p None = not_lifted NoPair

-- THE LIFT OF A POSITION: no accepted chain (9), not inside the target (13), no pair (12)
unfoldable pub lift_position : Chain → List Row → ℕ → Result (ℕ × ℤ) Refusal
lift_position c rows p =
    require (accepted c rows) (not_lifted BlockRules)
    (require (ltb p c.tSize) (not_lifted OutsideTarget)
    (at_partner p (partner_of p (pairs c rows))))
