-- The reach of a region: what the code finds of it in the blocks, and the answer that it gives.
use Rattle.std.specs.Prelude.{ℕ, ◌+◌, ◌-◌, ◌≤◌, min, max, ◌≡◌, true, List, [], ◌∷◌, leb, Ok, Result}
use Rattle.ledger.specs.Refusals.{require}
use Rattle.ledger.specs.declared.Row.{Row}
use Rattle.ledger.specs.declared.Reason.TheVariants.{NoPair}
use Rattle.chain.specs.declared.Chain.{Chain}
use Rattle.lift.specs.Pairs.{Pair, pairs}
use Rattle.region.specs.declared.Reach.{Reach}
use Rattle.region.specs.Regions.{kept, dropped, partners_in, least, bound, inside, not_lifted}
use Rattle.ledger.specs.declared.Refusal.{Refusal}
use Rattle.region.specs.declared.Region.{Region}

-- how many of the bases a to e − 1 a block of n from t on covers
abbrev pub lap : ℕ → ℕ → ℕ → ℕ → ℕ
lap a e t n = min e (t + n) - max a t

-- the overlaps summed over the blocks
unfoldable pub covered : ℕ → ℕ → List Row → ℕ
covered a e [] = 0
covered a e (b ∷ bs) = lap a e b.target b.size + covered a e bs

-- what the reach of a region is
pub record Reached (size a e : ℕ) (ps : List Pair) (r : Reach) : Type 0 where
  pub is_kept : r.kept ≡ kept ps a e
  pub is_low : r.low ≡ least size (partners_in a e ps)
  pub is_high : r.high ≡ bound 0 (partners_in a e ps)
  pub is_dropped : e - a - r.kept ≡ dropped ps a e
  pub fits : r.kept ≤ e - a

-- of a region that no block meets
abbrev pub no_reach : ℕ → Reach
no_reach size = record { kept = 0; low = size; high = 0 }

-- the reach that the code finds: that of a region inside the target; of any other, one that keeps no more than the region has
pub record Found (c : Chain) (rows : List Row) (a e : ℕ) (r : Reach) : Type 0 where
  pub reached : inside c a e ≡ true → Reached c.qSize a e (pairs c rows) r
  pub fits : r.kept ≤ e - a

-- the answer that a reach gives, for a region of len bases
abbrev pub answer_of : Reach → ℕ → Result Region Refusal
answer_of r len = require (leb 1 r.kept) (not_lifted NoPair) (Ok (record { kept = r.kept; dropped = len - r.kept; start = r.low; end = r.high }))
