-- What private functions promise. A tally's step through an accepted chain, in two: what refuses a region, and what the tally grows by; where the reach is found, the two
-- together are `tally_step` (proofs/TallyLaws.antt). And the loops of a batch.
use Rattle.std.specs.Prelude.{ℕ, zero, suc, ◌+◌, ◌-◌, ◌≤◌, ◌≡◌, Bool, true, false, ◌&&◌, List, [], ◌∷◌, ◌++◌, map, length, drop, leb, ltb, Ok, Err, Result, ⊤}
use Rattle.std.proofs.lemmas.List.Edits.{sets}
use Rattle.ledger.specs.declared.Row.{Row}
use Rattle.ledger.specs.Limits.{tally_limit}
use Rattle.ledger.specs.declared.Reason.{Reason}
use Rattle.ledger.specs.declared.Reason.TheVariants.{NumberOutOfRange, BlockRules, CountsDisagree, NoRoom, OutsideTarget}
use Rattle.ledger.specs.Refusals.{require}
use Rattle.text.specs.Checks.{refused}
use Rattle.chain.specs.declared.Chain.{Chain}
use Rattle.region.specs.declared.Reach.{Reach}
use Rattle.region.specs.declared.Tally.{Tally}
use Rattle.region.specs.declared.Tallied.{Tallied}
use Rattle.region.specs.declared.Batched.{Batched}
use Rattle.region.specs.Regions.{not_lifted}
use Rattle.region.specs.Reaches.{answer_of}
use Rattle.region.specs.Tallies.{good_tally, grown, sent_through}
use Rattle.region.specs.Batches.{answer_row, answer_rows, sent_as, regions_in, rows_bytes}

abbrev pub if_admitted : Bool → Reason → Result ⊤ Reason → Result ⊤ Reason
if_admitted true why rest = rest
if_admitted false why rest = Err why

-- 13, 10, 5
unfoldable pub admission : Tally → ℕ → ℕ → ℕ → Result ⊤ Reason
admission t size a e =
    if_admitted (ltb a e && leb e size) OutsideTarget
    (if_admitted (good_tally t) CountsDisagree
    (if_admitted (leb (t.asked + (e - a)) tally_limit) NumberOutOfRange (Ok tt)))

-- a good tally with room for a region of len bases and its reach
pub record Growable (t : Tally) (r : Reach) (len : ℕ) : Type 0 where
  pub fits : r.kept ≤ len
  pub room : t.asked + len ≤ tally_limit
  pub even : t.kept + t.dropped ≡ t.asked

abbrev pub grown_by : Tally → Reach → ℕ → Tallied
grown_by t r len = record { tally = grown t len r.kept (len - r.kept); answer = answer_of r len }

abbrev pub of_admission : Result ⊤ Reason → Tally → Tallied → Tallied
of_admission (Ok tt) t rest = rest
of_admission (Err why) t rest = record { tally = t; answer = not_lifted why }

-- the step of a region that reaches so far through a chain whose target has so many bases
unfoldable pub step_ready : Tally → ℕ → Reach → ℕ → ℕ → Tallied
step_ready t size r a e = of_admission (admission t size a e) t (grown_by t r (e - a))

-- ---- a batch
abbrev pub no_room : Tally → Batched
no_room t = record { tally = t; check = require false (refused NoRoom) (Ok tt) }

-- so many regions through no accepted chain
unfoldable pub refused_rows : ℕ → List (List ℕ)
refused_rows zero = []
refused_rows (suc n) = answer_row (not_lifted BlockRules) ∷ refused_rows n

-- all regions answered: the tally after them, and their rows before the rest
pub record AnsweredAll (t : Tally) (c : Chain) (rows : List Row) (regions before after : List (List ℕ)) (u : Tally) : Type 0 where
  pub tally : u ≡ sent_through t (map (sent_as c rows) regions)
  pub answers : after ≡ answer_rows t (map (sent_as c rows) regions) ++ drop (length regions) before

-- the same on bytes, as far as they reach
pub record RowsPut (t : Tally) (c : Chain) (rows : List Row) (regions before after : List ℕ) (u : Tally) : Type 0 where
  pub tally : u ≡ sent_through t (map (sent_as c rows) (regions_in regions))
  pub stored : after ≡ sets before 0 (rows_bytes (answer_rows t (map (sent_as c rows) (regions_in regions))))
