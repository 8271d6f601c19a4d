-- Demand 3's list claim for the tally in lent bytes. Assumes nothing.
use mathlib.Core.Path.{◌≡◌, refl, sym, ap, ◌∙◌}
use mathlib.Core.Bool.{Bool, true, false, cond}
use mathlib.Core.List.{List, [], ◌∷◌, ◌++◌, map}
use Prim.Native.Nat.{ℕ, ◌+◌, ◌*◌, ◌/◌, ◌≤◌, zero-le}
use native.Mathlib.Omega.{arith}
use lib.ListN.{length, drop, length-append}
use lib.Seq.{drop-append_seam}
use lib.Dec.{eqb}
use borrow.Author.Tests.{le-leb, eqb-false}
use Rattle.std.specs.Prelude.{Ok, Err, Result}
use Rattle.ledger.specs.declared.Row.{Row}
use Rattle.ledger.specs.declared.Reason.TheVariants.{NoRoom, NoPair}
use Rattle.ledger.specs.declared.Refusal.{Refusal}
use Rattle.ledger.specs.Limits.{largest_number}
use Rattle.ledger.specs.Reasons.{reason_number}
use Rattle.ledger.specs.Refusals.{require}
use Rattle.text.specs.Checks.{refused}
use Rattle.numbers.specs.Ranges.{Between, between_none, between_more}
use Rattle.chain.specs.declared.Chain.{Chain}
use Rattle.chain.specs.Records.{chain_rows}
use Rattle.chain.specs.Read.{chain_check}
use Rattle.region.specs.declared.Region.{Region}
use Rattle.region.specs.declared.Tally.{Tally}
use Rattle.region.specs.Tallies.{tally_step, Sent, zero_tally, sent_through}
use Rattle.region.specs.Batches.{sent_as, sent_if, region_size, regions_in, rows_bytes, room_in_bytes, sent_bytes, sent_text, text_batch_check}
use Rattle.lift.specs.Texts.{of_checked}
use Rattle.lift.proofs.AcceptLaws.{accepted_rules}
use Rattle.table_lift.specs.Lifts.{RegionTallied, BatchLifted}
use Rattle.region.proofs.RegionLaws.{region_lifted_lem, lifted_length}
use Rattle.region.proofs.BatchLaws.{batch_full, batch_tally}
use Rattle.region.proofs.ByteLaws.{regions_length}
use Rattle.region.proofs.TallyLaws.{Good, step_good, refused_leaves, sent_append, batch}
use Rattle.binary.specs.Bytes.{word_size}
use Rattle.binary.proofs.BackLaws.{words_length, words_back}
use Rattle.answers.specs.Answers.{most_told, gives, refuses, refusal_code, Answered}
use Rattle.answers.proofs.AnswerLaws.{told_itself}
use Rattle.entries.specs.Entries.{of_chain, of_tallied, tally_outcome, tally_bytes, tally_in, tallied, on_check, batch_lifted, tally_kept, tally_after}
use Rattle.demands.specs.Chain.{ChainSpells}
use Rattle.demands.specs.Desk.{TallyCode}
use Rattle.demands.specs.Calls.{EntryCall, single, many, text_of, sent_with, Called, called_none, called_single, called_many, Sends, sends_none, sends_chain, sends_other, Batches}
use Rattle.demands.proofs.RefusalLaws.{tally_at, lifted_step}
use Rattle.demands.proofs.ChainDemand2.{spelt_check, spelt_rows, spelt_of}

-- a tally of three 8-byte numbers is read back from its bytes, and a good one is such
module _ (t : Tally) (rest : List ℕ) where
  three : length (tally_bytes t) ≡ 3 * word_size
  three = words_length (t.asked ∷ t.kept ∷ t.dropped ∷ [])

  past : drop (length (tally_bytes t)) (tally_bytes t ++ rest) ≡ rest
  past = drop-append_seam (tally_bytes t) rest

  words_fit : Good t → Between 0 largest_number (t.asked ∷ t.kept ∷ t.dropped ∷ [])
  words_fit g =
      let a : t.asked ≤ largest_number = omega (arith, g.asked_most) in
      let k : t.kept ≤ largest_number = omega (arith, g.kept_most) in
      let d : t.dropped ≤ largest_number = omega (arith, g.dropped_most) in
      between_more zero-le a (between_more zero-le k (between_more zero-le d between_none))

  tally_back : Between 0 largest_number (t.asked ∷ t.kept ∷ t.dropped ∷ []) → tally_in (tally_bytes t ++ rest) ≡ t
  unfolding tally_in
  tally_back b =
      let vs = t.asked ∷ t.kept ∷ t.dropped ∷ [] in
      let long : 3 * word_size ≤ length (tally_bytes t ++ rest) = rw length-append (omega (arith, three)) in
      let x = words_back vs rest 0 b (omega arith) in
      let y = words_back vs rest 1 b (omega arith) in
      let z = words_back vs rest 2 b (omega arith) in
      rw (le-leb (3 * word_size) (length (tally_bytes t ++ rest)) long) (λ i. record { asked = x i; kept = y i; dropped = z i })

-- what a call leaves of a tally t: the tally u in its place
module _ (t u : Tally) (rest b' : List ℕ) (a : ℕ) where
  kept_bytes : u ≡ t → b' ≡ tally_bytes t ++ rest → b' ≡ tally_bytes u ++ rest
  kept_bytes e h = rw e h

  new_bytes : b' ≡ tally_bytes u ++ drop (length (tally_bytes u)) (tally_bytes t ++ rest) → b' ≡ tally_bytes u ++ rest
  new_bytes h =
      let e : length (tally_bytes u) ≡ length (tally_bytes t) = three u rest ∙ sym (three t rest) in
      h ∙ ap (λ (l : List ℕ). tally_bytes u ++ l) (ap (λ (n : ℕ). drop n (tally_bytes t ++ rest)) e ∙ past t rest)

  left_bytes : (x : Result Region Refusal) → ((y : Refusal) → x ≡ Err y → (y.reason ≡ NoPair → ⊥) → u ≡ t) → Answered (of_tallied x u) (tally_bytes t ++ rest) b' a → b' ≡ tally_bytes u ++ rest
  left_bytes (Ok x) f h = new_bytes h.left
  left_bytes (Err y) f h = go (eqb (reason_number y.reason) (reason_number NoPair)) refl h
    where
      go : (v : Bool) → eqb (reason_number y.reason) (reason_number NoPair) ≡ v
          → Answered (cond v (record { answer = refusal_code y; bytes = tally_bytes u }) (refuses y)) (tally_bytes t ++ rest) b' a → b' ≡ tally_bytes u ++ rest
      go true e k = new_bytes k.left
      go false e k = kept_bytes (f y refl (λ q. eqb-false _ _ e (ap reason_number q))) k.left

-- a call of one region with a text that spells a chain is a step of the tally; any other leaves the bytes
module _ (t : Tally) (g : Between 0 largest_number (t.asked ∷ t.kept ∷ t.dropped ∷ [])) (rest b' : List ℕ) (a : ℕ) (s : List ℕ) (start end : ℕ) (h : Answered (tallied s start end (tally_bytes t ++ rest)) (tally_bytes t ++ rest) b' a) where
  chain_step : (c : Chain) (rows : List Row) → ChainSpells s c rows → Answered (tally_outcome (tally_step t c rows start end)) (tally_bytes t ++ rest) b' a
  unfolding tallied
  chain_step c rows p = rw (spelt_check s c rows p, tally_back t rest g, ← spelt_rows s c rows p) at h

  chain_left : (c : Chain) (rows : List Row) → ChainSpells s c rows → b' ≡ tally_bytes (tally_step t c rows start end).tally ++ rest
  chain_left c rows p =
      let v = tally_step t c rows start end in
      left_bytes t v.tally rest b' a v.answer (refused_leaves t c rows start end) (chain_step c rows p)

  other_left : ((c : Chain) (rows : List Row) → ChainSpells s c rows → ⊥) → b' ≡ tally_bytes t ++ rest
  unfolding tallied
  other_left f = go (chain_check s) refl h
    where
      go : (x : Result Chain Refusal) → chain_check s ≡ x
          → Answered (of_chain x (λ c. tally_outcome (tally_step (tally_in (tally_bytes t ++ rest)) c (chain_rows s c) start end))) (tally_bytes t ++ rest) b' a → b' ≡ tally_bytes t ++ rest
      go (Ok c) e w = absurd (f c (chain_rows s c) (spelt_of s c e))
      go (Err y) e w = w.left

-- its answer: the kept bases, or the refusal
tally_code : (x : Result Region Refusal) (u : Tally) (b b' : List ℕ) (a : ℕ) → ((r : Region) → x ≡ Ok r → r.kept ≤ most_told) → ((y : Refusal) → x ≡ Err y → y.place ≡ 0) → Answered (of_tallied x u) b b' a
    → TallyCode x a
tally_code (Ok r) u b b' a f g h = h.is ∙ sym (told_itself r.kept (f r refl))
tally_code (Err y) u b b' a f g h = go (eqb (reason_number y.reason) (reason_number NoPair)) h
  where
    coded : a ≡ refusal_code y → a ≡ 16 * y.place + reason_number y.reason
    coded e = e ∙ ap (λ (n : ℕ). n + reason_number y.reason) (sym (told_itself y.place (omega (arith, g y refl))))

    go : (v : Bool) → Answered (cond v (record { answer = refusal_code y; bytes = tally_bytes u }) (refuses y)) b b' a → a ≡ 16 * y.place + reason_number y.reason
    go true k = coded k.is
    go false k = coded k.is

-- kept bases are told as they are
kept_told : (t : Tally) (c : Chain) (rows : List Row) (a e : ℕ) (r : Region) → (tally_step t c rows a e).answer ≡ Ok r → r.kept ≤ most_told
kept_told t c rows a e r h =
    let l = lifted_step t c rows a e r h in
    let w = region_lifted_lem c rows a e r l in
    omega (arith, lifted_length c rows a e r l, (accepted_rules c rows w.ok).t_most, w.last)

pub tally_told : (s : List ℕ) (c : Chain) (rows : List Row) → ChainSpells s c rows → (t u : Tally) (start end : ℕ) (x : Result Region Refusal) → RegionTallied t c rows start end u x
    → Between 0 largest_number (t.asked ∷ t.kept ∷ t.dropped ∷ []) → (rest b' : List ℕ) (a : ℕ) → Answered (tallied s start end (tally_bytes t ++ rest)) (tally_bytes t ++ rest) b' a
    → TallyCode x a × (b' ≡ tally_bytes u ++ rest)
tally_told s c rows p t u start end x w g rest b' a h =
    let v = tally_step t c rows start end in
    let code = tally_code v.answer v.tally (tally_bytes t ++ rest) b' a (kept_told t c rows start end) (tally_at t c rows start end) (chain_step t g rest b' a s start end h c rows p) in
    (rw w.is code, chain_left t g rest b' a s start end h c rows p ∙ ap (λ (y : Tally). tally_bytes y ++ rest) (sym w.tally))

-- a tally kept in the place of another
kept_front : (t u : Tally) (rest : List ℕ) → tally_kept u (tally_bytes t ++ rest) ≡ tally_bytes u ++ rest
unfolding tally_kept
kept_front t u rest =
    let long : 3 * word_size ≤ length (tally_bytes t ++ rest) = rw length-append (omega (arith, three t rest)) in
    rw (le-leb (3 * word_size) (length (tally_bytes t ++ rest)) long)
    (ap (λ (l : List ℕ). tally_bytes u ++ l) (ap (λ (n : ℕ). drop n (tally_bytes t ++ rest)) (sym (three t rest)) ∙ past t rest))

-- a call of many is the steps of those that it sends
module _ (s : List ℕ) (c : Chain) (rows : List Row) (p : ChainSpells s c rows) (regions : List ℕ) (room : ℕ) where
  pub text_sends : sent_text s regions room ≡ sent_bytes c rows regions room
  unfolding sent_text
  text_sends = rw (spelt_check s c rows p, ← spelt_rows s c rows p)

  pub text_checks : text_batch_check s regions room ≡ require (room_in_bytes regions room) (refused NoRoom) (Ok tt)
  unfolding text_batch_check
  text_checks = rw (spelt_check s c rows p)

  pub many_left : (t : Tally) → Between 0 largest_number (t.asked ∷ t.kept ∷ t.dropped ∷ []) → (rest b' : List ℕ) → b' ≡ tally_after s regions (tally_bytes t ++ rest) room
      → b' ≡ tally_bytes (sent_through t (sent_bytes c rows regions room)) ++ rest
  unfolding tally_after sent_bytes sent_through
  many_left t g rest b' h = (rw (text_checks, text_sends, tally_back t rest g) at h) ∙ go (room_in_bytes regions room)
    where
      go : (v : Bool) → on_check (require v (refused NoRoom) (Ok tt)) (λ _. tally_bytes t ++ rest) (tally_kept (sent_through t (sent_if v (map (sent_as c rows) (regions_in regions)))) (tally_bytes t ++ rest))
          ≡ tally_bytes (sent_through t (sent_if v (map (sent_as c rows) (regions_in regions)))) ++ rest
      go true = kept_front t (sent_through t (map (sent_as c rows) (regions_in regions))) rest
      go false = refl

many_other : (s regions lent : List ℕ) (room : ℕ) → ((c : Chain) (rows : List Row) → ChainSpells s c rows → ⊥) → tally_after s regions lent room ≡ lent
unfolding tally_after text_batch_check
many_other s regions lent room f = go (chain_check s) refl (room_in_bytes regions room)
  where
    go : (x : Result Chain Refusal) → chain_check s ≡ x → (v : Bool)
        → on_check (require v (refused NoRoom) (of_checked Err (λ _. Ok tt) x)) (λ _. lent) (tally_kept (sent_through (tally_in lent) (sent_text s regions room)) lent) ≡ lent
    go (Ok c) e v = absurd (f c (chain_rows s c) (spelt_of s c e))
    go (Err y) e true = refl
    go (Err y) e false = refl

-- with room for its rows, a batch tells those of `lift_batch`
module _ (s : List ℕ) (c : Chain) (rows : List Row) (p : ChainSpells s c rows) (regions : List ℕ) (room : ℕ) (fits : room_in_bytes regions room ≡ true) where
  pub check_holds : text_batch_check s regions room ≡ Ok tt
  check_holds = rw fits at (text_checks s c rows p regions room)

  pub sends_all : sent_text s regions room ≡ map (sent_as c rows) (regions_in regions)
  unfolding sent_bytes
  sends_all = rw fits at (text_sends s c rows p regions room)

  pub batch_given : (t u : Tally) (lentRows leftRows : List (List ℕ)) → BatchLifted t c rows (regions_in regions) lentRows u leftRows (Ok tt) → length lentRows ≡ length (regions_in regions)
      → Between 0 largest_number (t.asked ∷ t.kept ∷ t.dropped ∷ []) → (rest : List ℕ) → batch_lifted s regions (tally_bytes t ++ rest) room ≡ gives (length (regions_in regions)) (rows_bytes leftRows)
  unfolding batch_lifted
  batch_given t u lentRows leftRows d e g rest =
      let n = regions_length (length regions / region_size) regions 0 in
      let full = batch_full t c rows (regions_in regions) lentRows leftRows _ d e in
      rw (check_holds, sends_all, tally_back t rest g, full, n)

  pub batch_kept : (t u : Tally) (lentRows leftRows : List (List ℕ)) → BatchLifted t c rows (regions_in regions) lentRows u leftRows (Ok tt) → length lentRows ≡ length (regions_in regions)
      → Between 0 largest_number (t.asked ∷ t.kept ∷ t.dropped ∷ []) → (rest : List ℕ) → tally_after s regions (tally_bytes t ++ rest) room ≡ tally_bytes u ++ rest
  unfolding tally_after
  batch_kept t u lentRows leftRows d e g rest =
      rw (check_holds, sends_all, tally_back t rest g, batch_tally t c rows (regions_in regions) lentRows leftRows _ d (omega arith)) (kept_front t (sent_through t (map (sent_as c rows) (regions_in regions))) rest)

sent_good : (rs : List Sent) (t : Tally) → Good t → Good (sent_through t rs)
unfolding sent_through
sent_good [] t g = g
sent_good (r ∷ rs) t g = sent_good rs (tally_step t r.chain r.rows r.start r.end).tally (step_good t r.chain r.rows r.start r.end g)

-- so a list of calls leaves what the regions that it sends leave
called_sent : (ks : List EntryCall) (rs : List Sent) (t : Tally) (rest b after : List ℕ) → Good t → b ≡ tally_bytes t ++ rest → Sends ks rs → Called b ks after → after ≡ tally_bytes (sent_through t rs) ++ rest
unfolding sent_through
called_sent [] rs t rest b after g e sends_none (called_none h) = h ∙ e
called_sent (single s start end ∷ ks) rs t rest b after g e (sends_chain {c = c} {rows = rows} {rs = more} p q) (called_single {b' = b'} {a = a} h w) =
    called_sent ks more (tally_step t c rows start end).tally rest b' after (step_good t c rows start end g) (chain_left t (words_fit t rest g) rest b' a s start end (rw e at h) c rows p) q w
called_sent (single s start end ∷ ks) rs t rest b after g e (sends_other f q) (called_single {b' = b'} {a = a} h w) =
    called_sent ks rs t rest b' after g (other_left t (words_fit t rest g) rest b' a s start end (rw e at h) f) q w
called_sent (many s regions room ∷ ks) rs t rest b after g e (sends_chain {c = c} {rows = rows} {rs = more} p q) (called_many {b' = b'} h w) =
    let u = sent_through t (sent_bytes c rows regions room) in
    called_sent ks more u rest b' after (sent_good (sent_bytes c rows regions room) t g) (many_left s c rows p regions room t (words_fit t rest g) rest b' (rw e at h.tally_left)) q w
    ∙ ap (λ (x : Tally). tally_bytes x ++ rest) (sym (sent_append (sent_bytes c rows regions room) more t))
called_sent (many s regions room ∷ ks) rs t rest b after g e (sends_other f q) (called_many {b' = b'} h w) =
    called_sent ks rs t rest b' after g (h.tally_left ∙ many_other s regions b room f ∙ e) q w

zero_good : Good zero_tally
zero_good = record { asked_most = omega arith; kept_most = omega arith; dropped_most = omega arith; even = refl }

-- whether a text spells a chain is decided by its checker
sends : (ks : List EntryCall) → (rs : List Sent) × Sends ks rs
sends [] = ([], sends_none)
sends (k ∷ ks) = go (chain_check (text_of k)) refl (sends ks)
  where
    go : (x : Result Chain Refusal) → chain_check (text_of k) ≡ x → (rs : List Sent) × Sends ks rs → (rs : List Sent) × Sends (k ∷ ks) rs
    go (Ok c) e w = (sent_with k c (chain_rows (text_of k) c) ++ w.0, sends_chain (spelt_of (text_of k) c e) w.1)
    go (Err y) e w = (w.0, sends_other {k = k} (λ c rows p. let z = sym (spelt_check (text_of k) c rows p) ∙ e in let o : ◌≡◌ {A = ℕ} 0 1 = cc in omega arith) w.1)

-- DEMAND 3 OF THE TALLY IN LENT BYTES
pub batches : Batches
batches = record {
  every_call = λ ks rs rest after p q. called_sent ks rs zero_tally rest _ after zero_good refl p q ∙ ap (λ (t : Tally). tally_bytes t ++ rest) (batch rs);
  every_sends = sends;
}
