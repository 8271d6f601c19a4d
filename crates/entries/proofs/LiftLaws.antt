-- Lifts through a chain's text. Assumes nothing.
use mathlib.Core.Path.{◌≡◌, refl, sym, ap, ◌∙◌}
use mathlib.Core.Bool.{Bool, true, false}
use mathlib.Core.List.{List, [], ◌∷◌}
use Prim.Native.Nat.{ℕ, zero, suc, ◌+◌, ◌-◌, ◌^◌, ◌≤◌, ◌<◌}
use native.Mathlib.Omega.{arith}
use lib.ListN.{length}
use lib.Dec.{ltb}
use lib.IntN.{ℤ, pos, ◌-ℤ◌}
use borrow.Author.Tests.{lt-ltb, le-ltb}
use Rattle.std.specs.Prelude.{Ok, Err, Some, None, Result, Option}
use Rattle.ledger.specs.Refusals.{require}
use Rattle.ledger.specs.declared.Row.{Row}
use Rattle.ledger.specs.declared.Refusal.{Refusal}
use Rattle.ledger.specs.declared.Reason.TheVariants.{BlockRules, OutsideTarget}
use Rattle.ledger.specs.Limits.{largest_number}
use Rattle.chain.specs.declared.Chain.{Chain}
use Rattle.chain.specs.Records.{chain_rows}
use Rattle.chain.specs.Read.{chain_check}
use Rattle.lift.specs.Accepted.{accepted}
use Rattle.lift.specs.Pairs.{pairs, partner_of}
use Rattle.lift.specs.Positions.{not_lifted, at_partner, lift_position}
use Rattle.lift.specs.Texts.{of_checked, text_position}
use Rattle.region.specs.declared.Region.{Region}
use Rattle.region.specs.Regions.{lift_region, text_lifted}
use Rattle.answers.specs.Answers.{refusal_code, Outcome, Answered, refuses, numbered, no_room_at}
use Rattle.entries.specs.Entries.{in_word, of_chain, of_position, position_lifted, of_region, region_lifted}
use Rattle.answers.proofs.AnswerLaws.{refused_is}

-- partner minus position in a word
pub drift_below : (p q : ℕ) → q < p → p < 2 ^ 64 → largest_number - (p - q) + 1 ≡ in_word (pos q -ℤ pos p)
drift_below zero q h l = absurd (omega arith)
drift_below (suc p) q h l = rw (lt-ltb q (suc p) h) (omega arith)

pub drift_above : (p q : ℕ) → p ≤ q → q - p ≡ in_word (pos q -ℤ pos p)
drift_above zero q h = omega arith
drift_above (suc p) q h = rw (le-ltb q (suc p) h)

-- the drift of a lifted position is partner minus position
drift_of : (c : Chain) (rows : List Row) (p q : ℕ) (d : ℤ) → lift_position c rows p ≡ Ok (q, d) → d ≡ pos q -ℤ pos p
unfolding lift_position
drift_of c rows p q d e = go (accepted c rows) (ltb p c.tSize) (partner_of p (pairs c rows)) e
  where
    go : (t u : Bool) (x : Option ℕ) → require t (not_lifted BlockRules) (require u (not_lifted OutsideTarget) (at_partner p x)) ≡ Ok (q, d) → d ≡ pos q -ℤ pos p
    go false u x h = absurd (let z : ◌≡◌ {A = ℕ} 0 1 = cc in omega arith)
    go true false x h = absurd (let z : ◌≡◌ {A = ℕ} 0 1 = cc in omega arith)
    go true true None h = absurd (let z : ◌≡◌ {A = ℕ} 0 1 = cc in omega arith)
    go true true (Some b) h =
        let both : ◌≡◌ {A = ℕ × ℤ} (b, pos b -ℤ pos p) (q, d) = cc in
        let z : b ≡ q = ap (λ (w : ℕ × ℤ). w.0) both in
        let y : pos b -ℤ pos p ≡ d = ap (λ (w : ℕ × ℤ). w.1) both in
        sym y ∙ ap (λ (n : ℕ). pos n -ℤ pos p) z

text_drift : (s : List ℕ) (p q : ℕ) (d : ℤ) → text_position s p ≡ Ok (q, d) → d ≡ pos q -ℤ pos p
unfolding text_position
text_drift s p q d e = go (chain_check s) e
  where
    go : (x : Result Chain Refusal) → of_checked Err (λ c. lift_position c (chain_rows s c) p) x ≡ Ok (q, d) → d ≡ pos q -ℤ pos p
    go (Ok c) h = drift_of c (chain_rows s c) p q d h
    go (Err x) h = absurd (let z : ◌≡◌ {A = ℕ} 0 1 = cc in omega arith)

-- what is answered to a chain's text, where a refusal of the text is answered as one of the lift
checked_told : {A : Type 0} (of : A → Outcome) (refused : Refusal → A) (rest : Chain → A) → ((y : Refusal) → of (refused y) ≡ refuses y) → (x : Result Chain Refusal)
    → of_chain x (λ c. of (rest c)) ≡ of (of_checked refused rest x)
checked_told of refused rest h (Ok c) = refl
checked_told of refused rest h (Err x) = sym (h x)

-- a position through a chain's text
position_told : (s : List ℕ) (p room : ℕ) → position_lifted s p room ≡ of_position (text_position s p) (length s) room
unfolding position_lifted text_position
position_told s p room = checked_told (λ l. of_position l (length s) room) Err (λ c. lift_position c (chain_rows s c) p) (λ y. refl) (chain_check s)

module _ (s b : List ℕ) (p : ℕ) (x : Result (ℕ × ℤ) Refusal) (f : x ≡ text_position s p) where
  pub position_refused : (y : Refusal) (r : ℕ) → x ≡ Err y → r ≡ refusal_code y → Answered (position_lifted s p (length b)) b b r
  position_refused y r e q = rw (position_told s p (length b), sym f ∙ e) (refused_is y b r q)

  pub position_lifted_lem : (q : ℕ) (d : ℤ) (w : ℕ) (b' : List ℕ) (r : ℕ) → x ≡ Ok (q, d) → w ≡ in_word (pos q -ℤ pos p)
      → Answered (numbered (no_room_at (length s)) (length b) (q ∷ w ∷ [])) b b' r → Answered (position_lifted s p (length b)) b b' r
  position_lifted_lem q d w b' r e k g =
      let h : text_position s p ≡ Ok (q, d) = sym f ∙ e in
      let m : w ≡ in_word d = k ∙ ap in_word (sym (text_drift s p q d h)) in
      rw (position_told s p (length b), h, ← m) g

-- a region through a chain's text
region_told : (s : List ℕ) (start end room : ℕ) → region_lifted s start end room ≡ of_region (text_lifted s start end) (length s) room
unfolding region_lifted text_lifted
region_told s start end room = checked_told (λ l. of_region l (length s) room) Err (λ c. lift_region c (chain_rows s c) start end) (λ y. refl) (chain_check s)

module _ (s b : List ℕ) (start end : ℕ) (x : Result Region Refusal) (f : x ≡ text_lifted s start end) where
  pub region_refused : (y : Refusal) (r : ℕ) → x ≡ Err y → r ≡ refusal_code y → Answered (region_lifted s start end (length b)) b b r
  region_refused y r e q = rw (region_told s start end (length b), sym f ∙ e) (refused_is y b r q)

  pub region_lifted_lem : (y : Region) (b' : List ℕ) (r : ℕ) → x ≡ Ok y → Answered (numbered (no_room_at (length s)) (length b) (y.kept ∷ y.dropped ∷ y.start ∷ y.end ∷ [])) b b' r → Answered (region_lifted s start end (length b)) b b' r
  region_lifted_lem y b' r e g = rw (region_told s start end (length b), sym f ∙ e) g
