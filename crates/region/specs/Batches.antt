-- A batch (request 9): many regions through one chain, in order. Each is a region sent as in Tallies.antt, with the tally as the one before left it.
use Rattle.std.specs.Prelude.{ℕ, zero, suc, ◌+◌, ◌/◌, ◌%◌, ◌≡◌, Bool, true, false, ◌&&◌, List, [], ◌∷◌, ◌++◌, map, length, drop, get_or, leb, eqb, Ok, Err, Result, ⊤}
use Rattle.ledger.specs.declared.Row.{Row}
use Rattle.ledger.specs.declared.Reason.TheVariants.{NoRoom}
use Rattle.ledger.specs.Reasons.{reason_number}
use Rattle.ledger.specs.Refusals.{require}
use Rattle.text.specs.Checks.{refused}
use Rattle.binary.specs.Bytes.{word_size, words_bytes, low_at}
use Rattle.chain.specs.declared.Chain.{Chain}
use Rattle.chain.specs.Records.{chain_rows}
use Rattle.chain.specs.Read.{chain_check}
use Rattle.lift.specs.Texts.{of_checked}
use Rattle.region.specs.declared.Tally.{Tally}
use Rattle.region.specs.declared.Tallied.{Tallied}
use Rattle.region.specs.declared.Batched.{Batched}
use Rattle.region.specs.Tallies.{tally_step, Sent, sent_through}
use Rattle.ledger.specs.declared.Refusal.{Refusal}
use Rattle.region.specs.declared.Region.{Region}

-- A ROW of answers, five numbers: 0, kept, dropped, start and end of the query region; or the refusal's number and four zeros
abbrev pub answer_row : Result Region Refusal → List ℕ
answer_row (Ok x) = 0 ∷ x.kept ∷ x.dropped ∷ x.start ∷ x.end ∷ []
answer_row (Err x) = reason_number x.reason ∷ 0 ∷ 0 ∷ 0 ∷ 0 ∷ []

abbrev pub step_of : Tally → Sent → Tallied
step_of t r = tally_step t r.chain r.rows r.start r.end

-- the rows of regions sent one after the other
unfoldable pub answer_rows : Tally → List Sent → List (List ℕ)
answer_rows t [] = []
answer_rows t (r ∷ rs) = answer_row (step_of t r).answer ∷ answer_rows (step_of t r).tally rs

-- the regions of a batch, a start and an end each, as they are sent
abbrev pub sent_as : Chain → List Row → List ℕ → Sent
sent_as c rows x = record { chain = c; rows = rows; start = get_or x 0 0; end = get_or x 1 0 }

abbrev pub sent_if : Bool → List Sent → List Sent
sent_if true rs = rs
sent_if false rs = []

-- fewer answer rows than regions: none counts as sent
unfoldable pub sent_batch : Chain → List Row → List (List ℕ) → ℕ → List Sent
sent_batch c rows regions room = sent_if (leb (length regions) room) (map (sent_as c rows) regions)

unfoldable pub batch_check : List (List ℕ) → ℕ → Result ⊤ Refusal
batch_check regions room = require (leb (length regions) room) (refused NoRoom) (Ok tt)

-- WHAT A BATCH PROMISES: refused by 11 alone, once and before all else; the tally after the regions sent; a row for each of them, and the rows past those as before
pub record BatchDone (t : Tally) (c : Chain) (rows : List Row) (regions before after : List (List ℕ)) (r : Batched) : Type 0 where
  pub check : r.check ≡ batch_check regions (length before)
  pub tally : r.tally ≡ sent_through t (sent_batch c rows regions (length before))
  pub answers : after ≡ answer_rows t (sent_batch c rows regions (length before)) ++ drop (length (sent_batch c rows regions (length before))) before

-- A LIST OF CALLS: one region, or a batch with so many answer rows; each with the record and rows handed in with it
pub data Call : Type 0 where
  single : Sent → Call
  many : Chain → List Row → List (List ℕ) → ℕ → Call

-- the regions that a call sends
unfoldable pub sent_by : Call → List Sent
sent_by (single r) = r ∷ []
sent_by (many c rows regions room) = sent_batch c rows regions room

unfoldable pub sent_by_all : List Call → List Sent
sent_by_all [] = []
sent_by_all (x ∷ xs) = sent_by x ++ sent_by_all xs

-- ---- through a chain's text, on bytes, for the entries of other languages: a region is two words, a row five
abbrev pub region_size : ℕ
region_size = 16

abbrev pub row_size : ℕ
row_size = 40

-- n regions from a place on
unfoldable pub regions_from : ℕ → List ℕ → ℕ → List (List ℕ)
regions_from zero s at = []
regions_from (suc n) s at = (low_at word_size s at ∷ low_at word_size s (at + word_size) ∷ []) ∷ regions_from n s (at + region_size)

abbrev pub regions_in : List ℕ → List (List ℕ)
regions_in s = regions_from (length s / region_size) s 0

unfoldable pub rows_bytes : List (List ℕ) → List ℕ
rows_bytes [] = []
rows_bytes (r ∷ rs) = words_bytes r ++ rows_bytes rs

-- whole regions alone, and a row for each
abbrev pub room_in_bytes : List ℕ → ℕ → Bool
room_in_bytes regions room = eqb (length regions % region_size) 0 && leb (length regions / region_size) (room / row_size)

-- the regions that count as sent: through the chain that the text says, where there is room
unfoldable pub sent_bytes : Chain → List Row → List ℕ → ℕ → List Sent
sent_bytes c rows regions room = sent_if (room_in_bytes regions room) (map (sent_as c rows) (regions_in regions))

unfoldable pub sent_text : List ℕ → List ℕ → ℕ → List Sent
sent_text s regions room = of_checked (λ _. []) (λ c. sent_bytes c (chain_rows s c) regions room) (chain_check s)

-- too few rows, or a region cut short, is 11 before the text is read; then the text's own refusals
unfoldable pub text_batch_check : List ℕ → List ℕ → ℕ → Result ⊤ Refusal
text_batch_check s regions room = require (room_in_bytes regions room) (refused NoRoom) (of_checked Err (λ _. Ok tt) (chain_check s))

-- WHAT A BATCH THROUGH A TEXT PROMISES
pub record TextBatch (s : List ℕ) (t : Tally) (regions before after : List ℕ) (r : Batched) : Type 0 where
  pub check : r.check ≡ text_batch_check s regions (length before)
  pub tally : r.tally ≡ sent_through t (sent_text s regions (length before))
  pub answers : after ≡ rows_bytes (answer_rows t (sent_text s regions (length before))) ++ drop (length (rows_bytes (answer_rows t (sent_text s regions (length before))))) before
