-- The laws of tallies, said of the tally that is lent. Assumes nothing.
use mathlib.Core.Path.{◌≡◌, refl, sym, ap, ◌∙◌}
use mathlib.Core.List.{List, [], ◌∷◌, map}
use Prim.Native.Nat.{ℕ, ◌-◌}
use native.Mathlib.Omega.{arith}
use lib.ListN.{length}
use borrow.Author.Tests.{lt-leb, le-leb}
use Rattle.ledger.specs.declared.Row.{Row}
use Rattle.ledger.specs.declared.Refusal.{Refusal}
use Rattle.ledger.specs.declared.Reason.TheVariants.{NoRoom, NoPair}
use Rattle.chain.specs.declared.Chain.{Chain}
use Rattle.region.specs.declared.Tally.{Tally}
use Rattle.region.specs.Tallies.{grown, Sent, sums, zero_tally, sent_through}
use Rattle.region.specs.Batches.{batch_check, Call, single, many, sent_by, sent_by_all}
use Rattle.region.proofs.TallyLaws.{refused_leaves, refused_adds, sent_append, batch}
use Rattle.region.proofs.BatchLaws.{batch_left}
use Rattle.lift.proofs.RunLaws.{either}
use Rattle.table_lift.specs.Lifts.{RegionTallied, BatchLifted, Called, called_single, called_many, Calls, calls_none, calls_more}
use Rattle.std.specs.Prelude.{Ok, Err}

-- A REFUSAL other than 12 leaves the tally
pub tally_left : (t u : Tally) (c : Chain) (rows : List Row) (a e : ℕ) (x : Refusal) → RegionTallied t c rows a e u (Err x) → (x.reason ≡ NoPair → ⊥) → u ≡ t
tally_left t u c rows a e x h n = h.tally ∙ refused_leaves t c rows a e x (sym h.is) n

-- a region refused by 12 adds its length to asked and dropped
pub tally_added : (t u : Tally) (c : Chain) (rows : List Row) (a e : ℕ) (x : Refusal) → RegionTallied t c rows a e u (Err x) → x.reason ≡ NoPair → u ≡ grown t (e - a) 0 (e - a)
tally_added t u c rows a e x h n = h.tally ∙ refused_adds t c rows a e x (sym h.is) n

-- A BATCH is refused by 11 alone, which leaves the tally and every row
pub batch_refused : (t u : Tally) (c : Chain) (rows : List Row) (regions before after : List (List ℕ)) (x : Refusal) → BatchLifted t c rows regions before u after (Err x)
    → (x ≡ record { reason = NoRoom; place = 0 }) × (u ≡ t) × (after ≡ before)
unfolding batch_check
batch_refused t u c rows regions before after x h = either (length regions) (length before) _
    (λ k. absurd (let w : Err x ≡ Ok tt = rw (le-leb (length regions) (length before) k) at h.check in let z : ◌≡◌ {A = ℕ} 0 1 = cc in omega arith))
    (λ k. let w : Err x ≡ Err (record { reason = NoRoom; place = 0 }) = rw (lt-leb (length regions) (length before) k) at h.check in
    let n = batch_left t c rows regions before after _ h k in (cc, n.1, n.0))

-- a call leaves what its regions leave, sent one by one
called_sent : (t u : Tally) (x : Call) → Called t x u → u ≡ sent_through t (sent_by x)
unfolding sent_by sent_through
called_sent t u (single r) (called_single h) = h.tally
called_sent t u (many c rows regions room) (called_many d) = d.tally

calls_sent : (t u : Tally) (xs : List Call) → Calls t xs u → u ≡ sent_through t (sent_by_all xs)
unfolding sent_by_all sent_through
calls_sent t u [] (calls_none e) = e
calls_sent t u (x ∷ xs) (calls_more {u = m} h k) =
    calls_sent m u xs k ∙ ap (λ (y : Tally). sent_through y (sent_by_all xs)) (called_sent t m x h) ∙ sym (sent_append (sent_by x) (sent_by_all xs) t)

-- THE TALLY: after every list of calls, single regions and batches mixed, the lent tally, zero at first, is the sums over the regions sent
pub calls_sums : (u : Tally) (xs : List Call) → Calls zero_tally xs u → u ≡ sums (sent_by_all xs)
calls_sums u xs h = calls_sent zero_tally u xs h ∙ batch (sent_by_all xs)

-- so of a list of single regions
pub singles_sent : (t u : Tally) (rs : List Sent) → Calls t (map single rs) u → u ≡ sent_through t rs
unfolding sent_by_all sent_by
singles_sent t u rs h = calls_sent t u (map single rs) h ∙ ap (sent_through t) (singles rs)
  where
    singles : (xs : List Sent) → sent_by_all (map single xs) ≡ xs
    singles [] = refl
    singles (x ∷ xs) = ap (λ (l : List Sent). x ∷ l) (singles xs)

pub list_sums : (u : Tally) (rs : List Sent) → Calls zero_tally (map single rs) u → u ≡ sums rs
list_sums u rs h = singles_sent zero_tally u rs h ∙ batch rs
