-- The tally of a batch: one region's step, and the sums over a list of regions, which are defined from the regions and the pairs and not from the step.
use Rattle.std.specs.Prelude.{ℕ, ◌+◌, ◌-◌, Bool, true, false, ◌&&◌, List, [], ◌∷◌, leb, eqb}
use Rattle.ledger.specs.Refusals.{require}
use Rattle.ledger.specs.declared.Reason.{Reason}
use Rattle.ledger.specs.declared.Reason.TheVariants.{NumberOutOfRange, BlockRules, CountsDisagree, OutsideTarget}
use Rattle.ledger.specs.declared.Row.{Row}
use Rattle.ledger.specs.Limits.{tally_limit}
use Rattle.chain.specs.declared.Chain.{Chain}
use Rattle.lift.specs.Accepted.{accepted}
use Rattle.lift.specs.Pairs.{pairs}
use Rattle.region.specs.declared.Tally.{Tally}
use Rattle.region.specs.declared.Tallied.{Tallied}
use Rattle.region.specs.Regions.{kept, dropped, not_lifted, inside, carried}

-- a good tally: each field to its limit, and kept and dropped make up asked; any other is bad
unfoldable pub good_tally : Tally → Bool
good_tally t =
    leb t.kept tally_limit && (leb t.dropped tally_limit && (leb t.asked tally_limit && eqb (t.kept + t.dropped) t.asked))

abbrev pub grown : Tally → ℕ → ℕ → ℕ → Tally
grown t a k d = record { asked = t.asked + a; kept = t.kept + k; dropped = t.dropped + d }

-- where a test holds go on, else the tally stays and the region is refused
abbrev pub not_tallied : Tally → Reason → Tallied
not_tallied t why = record { tally = t; answer = not_lifted why }

-- THE TALLY'S STEP: 9, 13, 10, 5, each leaving the tally; else it grows, also where the region's answer is 12
unfoldable pub tally_step : Tally → Chain → List Row → ℕ → ℕ → Tallied
tally_step t c rows a e =
    require (accepted c rows) (not_tallied t BlockRules)
    (require (inside c a e) (not_tallied t OutsideTarget)
    (require (good_tally t) (not_tallied t CountsDisagree)
    (require (leb (t.asked + (e - a)) tally_limit) (not_tallied t NumberOutOfRange)
    (record {
      tally = grown t (e - a) (kept (pairs c rows) a e) (dropped (pairs c rows) a e);
      answer = carried c.qSize (pairs c rows) a e;
    }))))

-- a region as it is sent, with the record and rows handed in with it
pub record Sent : Type 0 where
  pub chain : Chain
  pub rows : List Row
  pub start : ℕ
  pub end : ℕ

abbrev pub length_of : Sent → ℕ
length_of r = r.end - r.start

abbrev pub kept_of : Sent → ℕ
kept_of r = kept (pairs r.chain r.rows) r.start r.end

abbrev pub dropped_of : Sent → ℕ
dropped_of r = dropped (pairs r.chain r.rows) r.start r.end

-- a region counts: through an accepted chain, inside its target, and its length does not carry the sum of asked past the limit
unfoldable pub counts : ℕ → Sent → Bool
counts asked r = accepted r.chain r.rows && inside r.chain r.start r.end && leb (asked + length_of r) tally_limit

-- the regions that are not passed over, where so much has been asked before
abbrev pub add_if : Bool → Sent → (ℕ → List Sent) → ℕ → List Sent
add_if true r rest asked = r ∷ rest (asked + length_of r)
add_if false r rest asked = rest asked

unfoldable pub counted : List Sent → ℕ → List Sent
counted [] asked = []
counted (r ∷ rs) asked = add_if (counts asked r) r (counted rs) asked

unfoldable pub total : (Sent → ℕ) → List Sent → ℕ
total f [] = 0
total f (r ∷ rs) = f r + total f rs

-- THE SUMS of demand 3, from 0
unfoldable pub sums : List Sent → Tally
sums rs = record {
  asked = total length_of (counted rs 0);
  kept = total kept_of (counted rs 0);
  dropped = total dropped_of (counted rs 0);
}

abbrev pub zero_tally : Tally
zero_tally = record { asked = 0; kept = 0; dropped = 0 }

-- the tally after the regions: each gets it as the last one left it
unfoldable pub sent_through : Tally → List Sent → Tally
sent_through t [] = t
sent_through t (r ∷ rs) = sent_through (tally_step t r.chain r.rows r.start r.end).tally rs
