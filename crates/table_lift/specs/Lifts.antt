-- Lifts and tallies over a lent table of rows. The definitions of `lift` and `region` are cited on the table as it stands.
use Rattle.std.specs.Prelude.{ℕ, ◌≡◌, List, [], ◌∷◌, length, Result, ⊤}
use Rattle.ledger.specs.declared.Row.{Row}
use Rattle.chain.specs.declared.Chain.{Chain}
use Rattle.region.specs.declared.Tally.{Tally}
use Rattle.region.specs.Tallies.{tally_step, Sent}
use Rattle.region.specs.Batches.{BatchDone, Call, single, many}
use Rattle.ledger.specs.declared.Refusal.{Refusal}
use Rattle.region.specs.declared.Region.{Region}

-- THE TALLY'S PROMISE: the answer, and the lent tally afterwards, are those of the step
pub record RegionTallied (before : Tally) (c : Chain) (rows : List Row) (start end : ℕ) (after : Tally) (x : Result Region Refusal) : Type 0 where
  pub is : x ≡ (tally_step before c rows start end).answer
  pub tally : after ≡ (tally_step before c rows start end).tally

-- THE BATCH'S PROMISE: the answer, the rows, and the lent tally afterwards, are those of the batch
abbrev pub BatchLifted : Tally → Chain → List Row → List (List ℕ) → List (List ℕ) → Tally → List (List ℕ) → Result ⊤ Refusal → Type 0
BatchLifted t c rows regions before u after x = BatchDone t c rows regions before after (record { tally = u; check = x })

-- what a call promises of the lent tally: one region, or a batch whose answers go to so many rows
pub data Called : Tally → Call → Tally → Type 0 where
  called_single : {t u : Tally} {r : Sent} {x : Result Region Refusal} → RegionTallied t r.chain r.rows r.start r.end u x → Called t (single r) u
  called_many : {t u : Tally} {c : Chain} {rows : List Row} {regions before after : List (List ℕ)} {x : Result ⊤ Refusal}
      → BatchLifted t c rows regions before u after x → Called t (many c rows regions (length before)) u

-- calls one after the other, each with the tally as the last one left it; the tally before and after
pub data Calls : Tally → List Call → Tally → Type 0 where
  calls_none : {t u : Tally} → u ≡ t → Calls t [] u
  calls_more : {t u v : Tally} {x : Call} {xs : List Call} → Called t x u → Calls u xs v → Calls t (x ∷ xs) v
