-- DEMAND 3 AT THE ENTRIES: regions through `tenderchock_tally` and `tenderchock_lift_batch`, the tally three numbers at the front of lent bytes.
use Rattle.std.specs.Prelude.{ℕ, ◌≡◌, List, [], ◌∷◌, ◌++◌, length}
use Rattle.ledger.specs.declared.Row.{Row}
use Rattle.chain.specs.declared.Chain.{Chain}
use Rattle.region.specs.Tallies.{Sent, sums, zero_tally}
use Rattle.region.specs.Batches.{sent_bytes}
use Rattle.answers.specs.Answers.{Answered}
use Rattle.entries.specs.Entries.{tally_bytes, tallied, BatchTold}
use Rattle.demands.specs.Chain.{ChainSpells}

-- a call of an entry: a chain's text and a region; or a chain's text, the bytes of many regions, and so many bytes for their rows
pub data EntryCall : Type 0 where
  single : List ℕ → ℕ → ℕ → EntryCall
  many : List ℕ → List ℕ → ℕ → EntryCall

abbrev pub text_of : EntryCall → List ℕ
text_of (single s start end) = s
text_of (many s regions room) = s

-- the regions that a call sends through a chain: of many without room for their rows, none
abbrev pub sent_with : EntryCall → Chain → List Row → List Sent
sent_with (single s start end) c rows = record { chain = c; rows = rows; start = start; end = end } ∷ []
sent_with (many s regions room) c rows = sent_bytes c rows regions room

-- calls one after the other, each with the bytes as the last one left them; the bytes before and after
pub data Called : List ℕ → List EntryCall → List ℕ → Type 0 where
  called_none : {b b' : List ℕ} → b' ≡ b → Called b [] b'
  called_single : {b b' b'' s : List ℕ} {start end : ℕ} {ks : List EntryCall} {a : ℕ} → Answered (tallied s start end b) b b' a → Called b' ks b'' → Called b (single s start end ∷ ks) b''
  called_many : {b b' b'' s regions before after : List ℕ} {ks : List EntryCall} {a : ℕ} → BatchTold s regions b b' before after a → Called b' ks b''
      → Called b (many s regions (length before) ∷ ks) b''

-- the regions that they send: a text that spells a chain sends them through it with its rows, and any other text none
pub data Sends : List EntryCall → List Sent → Type 0 where
  sends_none : Sends [] []
  sends_chain : {k : EntryCall} {ks : List EntryCall} {c : Chain} {rows : List Row} {rs : List Sent} → ChainSpells (text_of k) c rows → Sends ks rs → Sends (k ∷ ks) (sent_with k c rows ++ rs)
  sends_other : {k : EntryCall} {ks : List EntryCall} {rs : List Sent} → ((c : Chain) (rows : List Row) → ChainSpells (text_of k) c rows → ⊥) → Sends ks rs → Sends (k ∷ ks) rs

pub record Batches : Type 0 where
  -- after every list of calls, single regions and batches mixed, from 24 zero bytes on, the three numbers are the sums, and bytes past them are as they were
  pub every_call : (ks : List EntryCall) (rs : List Sent) (rest after : List ℕ) → Sends ks rs → Called (tally_bytes zero_tally ++ rest) ks after → after ≡ tally_bytes (sums rs) ++ rest
  -- and every list of calls sends some regions, whatever the texts are
  pub every_sends : (ks : List EntryCall) → (rs : List Sent) × Sends ks rs
