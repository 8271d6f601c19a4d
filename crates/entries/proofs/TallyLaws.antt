-- The tally in the lent bytes. Assumes nothing.
use mathlib.Core.Path.{◌≡◌, refl, sym, ap, ◌∙◌}
use mathlib.Core.Bool.{Bool, true, false}
use mathlib.Core.List.{List, [], ◌∷◌}
use Prim.Native.Nat.{ℕ, ◌*◌, ◌≤◌, ◌<◌}
use native.Mathlib.Omega.{arith}
use lib.ListN.{length, take}
use lib.Dec.{leb}
use borrow.Author.Tests.{le-leb, lt-leb, leb-true, leb-false, eq-eqb, ne_eqb}
use Rattle.std.specs.Prelude.{Ok, Err, Result}
use Rattle.ledger.specs.Refusals.{without_text, require}
use Rattle.ledger.specs.declared.Row.{Row}
use Rattle.ledger.specs.declared.Refusal.{Refusal}
use Rattle.ledger.specs.declared.Reason.{Reason}
use Rattle.ledger.specs.declared.Reason.TheVariants.{BlockRules, CountsDisagree, NoPair, OutsideTarget}
use Rattle.ledger.specs.Reasons.{reason_number}
use Rattle.blocks.specs.Rows.{table_of}
use Rattle.chain.specs.declared.Chain.{Chain}
use Rattle.lift.specs.Accepted.{accepted}
use Rattle.region.specs.declared.Region.{Region}
use Rattle.region.specs.declared.Tally.{Tally}
use Rattle.region.specs.declared.Tallied.{Tallied}
use Rattle.region.specs.Regions.{not_lifted, inside}
use Rattle.region.specs.Tallies.{good_tally, not_tallied, tally_step}
use Rattle.writing.specs.Puts.{Put}
use Rattle.binary.specs.Bytes.{word_size, low_at}
use Rattle.binary.proofs.BackLaws.{words_length}
use Rattle.answers.specs.Answers.{told, refusal_code, Answered}
use Rattle.entries.specs.Records.{ChainStaged}
use Rattle.entries.specs.Entries.{bad_tally, tally_in, tally_bytes, of_tallied, tally_outcome, TallyRoom, tallied}
use Rattle.answers.proofs.AnswerLaws.{refused_is, put_front}
use Rattle.entries.proofs.EntryLaws.{chain_accepted}

-- reading it
pub tally_short : (s : List ℕ) → length s < 3 * word_size → bad_tally ≡ tally_in s
unfolding tally_in
tally_short s h = rw (lt-leb (3 * word_size) (length s) h)

pub tally_read : (s : List ℕ) (a k d : ℕ) → 3 * word_size ≤ length s → a ≡ low_at word_size s 0 → k ≡ low_at word_size s word_size → d ≡ low_at word_size s (2 * word_size)
    → record { asked = a; kept = k; dropped = d } ≡ tally_in s
unfolding tally_in
tally_read s a k d h e f g = rw (le-leb (3 * word_size) (length s) h, e, f, g)

-- writing it where the region was lifted or has no pair
module _ (answer : Result Region Refusal) (t : Tally) (b : List ℕ) (room : TallyRoom answer b) where
  three : length (tally_bytes t) ≡ 3 * word_size
  three = words_length (t.asked ∷ t.kept ∷ t.dropped ∷ [])

  pub tally_lifted : (x : Region) (b' : List ℕ) (p r : ℕ) → answer ≡ Ok x → Put (tally_bytes t) 0 b b' p → r ≡ told x.kept → Answered (of_tallied answer t) b b' r
  tally_lifted x b' p r e f q =
      let l : length (tally_bytes t) ≤ length b = omega (arith, three, room.lifted x e) in
      rw e (record { is = q; left = put_front (tally_bytes t) b b' l f.stored })

  module _ (x : Refusal) (e : answer ≡ Err x) (m n : ℕ) (is : m ≡ reason_number x.reason) (none : n ≡ reason_number NoPair) where
    pub tally_alone : (b' : List ℕ) (p r : ℕ) → m ≡ n → Put (tally_bytes t) 0 b b' p → r ≡ refusal_code x → Answered (of_tallied answer t) b b' r
    tally_alone b' p r k f q =
        let j : reason_number x.reason ≡ reason_number NoPair = sym is ∙ k ∙ none in
        let l : length (tally_bytes t) ≤ length b = omega (arith, three, room.alone x e j) in
        rw (e, eq-eqb (reason_number x.reason) (reason_number NoPair) j) (record { is = q; left = put_front (tally_bytes t) b b' l f.stored })

    pub tally_left : (r : ℕ) → (m ≡ n → ⊥) → r ≡ refusal_code x → Answered (of_tallied answer t) b b r
    tally_left r k q = rw (e, ne_eqb (reason_number x.reason) (reason_number NoPair) (λ j. k (is ∙ j ∙ sym none))) (refused_is x b r q)

never : (why : Reason) (s : List ℕ) → (reason_number why ≡ reason_number NoPair → ⊥) → TallyRoom (not_lifted why) s
never why s n = record {
  lifted = λ x e. absurd (let z : ◌≡◌ {A = ℕ} 0 1 = cc in omega arith);
  alone = λ x e k. absurd (let q : without_text why ≡ x = cc in n (ap (λ (y : Refusal). reason_number y.reason) q ∙ k));
}

-- a bad tally is refused, by 9, 13 or 10
module _ (c : Chain) (rows : List Row) (start end : ℕ) where
  bad_answer : (P : Result Region Refusal → Type 0) → P (not_lifted BlockRules) → P (not_lifted OutsideTarget) → P (not_lifted CountsDisagree) → P (tally_step bad_tally c rows start end).answer
  unfolding tally_step good_tally
  bad_answer P f g h = go (accepted c rows) (inside c start end)
    where
      go : (t u : Bool) → P (require t (not_tallied bad_tally BlockRules) (require u (not_tallied bad_tally OutsideTarget) (record { tally = bad_tally; answer = not_lifted CountsDisagree }))).answer
      go false u = f
      go true false = g
      go true true = h

  bad_room : (s : List ℕ) → TallyRoom (tally_step bad_tally c rows start end).answer s
  bad_room s =
      bad_answer (λ (x : Result Region Refusal). TallyRoom x s) (never BlockRules s (λ e. omega arith)) (never OutsideTarget s (λ e. omega arith)) (never CountsDisagree s (λ e. omega arith))

-- where the tally is written it was read from three numbers
pub tally_room : (done : Tallied) (before : Tally) (s : List ℕ) (c : Chain) (rows : List Row) (start end : ℕ) → before ≡ tally_in s → done ≡ tally_step before c rows start end
    → TallyRoom done.answer s
tally_room done before s c rows start end f g = go (leb (3 * word_size) (length s)) refl
  where
    go : (t : Bool) → leb (3 * word_size) (length s) ≡ t → TallyRoom done.answer s
    go true e = let l = leb-true (3 * word_size) (length s) e in record { lifted = λ x q. l; alone = λ x q k. l }
    go false e =
        let h : before ≡ bad_tally = f ∙ sym (tally_short s (leb-false (3 * word_size) (length s) e)) in
        rw (g, h) (bad_room c rows start end s)

pub tally_step_lem : (done : Tallied) (before : Tally) (b b' : List ℕ) (c : Chain) (rows : List Row) (start end r : ℕ) → before ≡ tally_in b → done ≡ tally_step before c rows start end
    → Answered (of_tallied done.answer done.tally) b b' r → Answered (tally_outcome (tally_step (tally_in b) c rows start end)) b b' r
tally_step_lem done before b b' c rows start end r f g h = rw (← f, ← g) h

pub tally_answered : (s ts qs zs b : List ℕ) (x : Result Chain Refusal) → ChainStaged s ts qs zs x → (a : Chain) → x ≡ Ok a → (b' : List ℕ) (r start end : ℕ)
    → Answered (tally_outcome (tally_step (tally_in b) a (table_of (take a.blockCount ts) (take a.blockCount qs) (take a.blockCount zs)) start end)) b b' r → Answered (tallied s start end b) b b' r
unfolding tallied
tally_answered s ts qs zs b x f a e b' r start end g = chain_accepted s ts qs zs b x f (λ c l. tally_outcome (tally_step (tally_in b) c l start end)) a b' r e g
