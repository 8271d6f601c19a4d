-- Storing one thing after another: a writer is a row of stores. Assumes nothing.
use mathlib.Core.Path.{◌≡◌, refl, sym, ap, ◌∙◌}
use mathlib.Core.Bool.{Bool, true, false, cond}
use mathlib.Core.List.{List, [], ◌∷◌, ◌++◌}
use Prim.Native.Nat.{ℕ, suc, ◌+◌, ◌≤◌, ◌<◌}
use native.Mathlib.Omega.{arith}
use native.Mathlib.Numerals.{add-one}
use lib.ListN.{length, set, get_or, drop, length-append, drop_of_length-le}
use lib.Seq.{sets, drop-cons, set_out, sets-eq}
use lib.Dec.{leb}
use borrow.Author.Tests.{leb-true, leb-false, le-leb, lt-leb}
use Rattle.ledger.specs.Limits.{text_limit, largest_place}
use Rattle.ledger.specs.declared.Reason.TheVariants.{TextTooLong, NoRoom}
use Rattle.ledger.specs.declared.Refusal.{Refusal}
use Rattle.ledger.specs.Refusals.{without_text}
use Rattle.writing.specs.Puts.{onward, Put}
use Rattle.writing.specs.Answers.{room_answer, Wrote}
use Rattle.std.specs.Prelude.{Ok, Err, Result}

-- stores past a buffer's end change nothing
pub sets_out : (b : List ℕ) (at : ℕ) (xs : List ℕ) → length b ≤ at → sets b at xs ≡ b
sets_out b at [] h = refl
sets_out b at (x ∷ xs) h = rw (set_out b at x h) (sets_out b (suc at) xs (omega arith))

-- bytes stored one run after the other
pub sets_append : (b : List ℕ) (at : ℕ) (xs ys : List ℕ) → sets (sets b at xs) (at + length xs) ys ≡ sets b at (xs ++ ys)
sets_append b at [] ys = ap (λ (k : ℕ). sets b k ys) (omega arith)
sets_append b at (x ∷ xs) ys =
    let e : at + suc (length xs) ≡ suc at + length xs = omega arith in
    rw e (sets_append (set b at x) (suc at) xs ys)

-- no buffer reaches past the largest place
sets_onward : (b : List ℕ) (at n : ℕ) (ys : List ℕ) → length b ≤ largest_place → sets b (onward at n) ys ≡ sets b (at + n) ys
sets_onward b at n ys h = go (leb (at + n) largest_place) refl
  where
    go : (t : Bool) → leb (at + n) largest_place ≡ t → sets b (onward at n) ys ≡ sets b (at + n) ys
    go true e =
        let l = leb-true (at + n) largest_place e in
        let q : onward at n ≡ at + n = omega arith in
        rw q
    go false e =
        let l = leb-false (at + n) largest_place e in
        rw (sets_out b (onward at n) ys (omega arith), sets_out b (at + n) ys (omega arith))

pub put_then : {xs ys : List ℕ} {at p q : ℕ} {b₀ b₁ b₂ : List ℕ} → Put xs at b₀ b₁ p → Put ys p b₁ b₂ q → Put (xs ++ ys) at b₀ b₂ q
put_then {xs} {ys} {at} {p} {q} {b₀} {b₁} {b₂} f g = record {
  next = rw length-append (omega (arith, f.next, g.next));
  stored = rw (g.stored, f.next, sets_onward b₁ at (length xs) ys g.room, f.stored) (sets_append b₀ at xs ys);
  room = f.room;
}

-- a byte past the end
pub byte_out : (b : List ℕ) (at x : ℕ) → length b ≤ at → b ≡ sets b at (x ∷ [])
byte_out b at x h = sym (set_out b at x h)

-- nothing stored
pub put_none : (b : List ℕ) (at : ℕ) → at ≤ largest_place → length b ≤ largest_place → Put [] at b b at
put_none b at h l = record { next = omega arith; stored = refl; room = l }

-- what a loop that writes keeps: whatever stores the rest xs completes the whole ys
abbrev pub Completes : List ℕ → ℕ → List ℕ → List ℕ → ℕ → List ℕ → Type 0
Completes xs p b ys at b₀ = (b' : List ℕ) (r : ℕ) → Put xs p b b' r → Put ys at b₀ b' r

pub completes_all : (ys : List ℕ) (at : ℕ) (b₀ : List ℕ) → Completes ys at b₀ ys at b₀
completes_all ys at b₀ b' r f = f

pub completes_step : (rest xs xs' ys : List ℕ) (p q at : ℕ) (b b₁ b₀ : List ℕ) → Completes rest p b ys at b₀ → rest ≡ xs ++ xs' → Put xs p b b₁ q → Completes xs' q b₁ ys at b₀
completes_step rest xs xs' ys p q at b b₁ b₀ k e f b' r g = k b' r (rw e (put_then f g))

pub completes_done : (rest ys : List ℕ) (p at : ℕ) (b b₀ : List ℕ) → Completes rest p b ys at b₀ → rest ≡ [] → p ≤ largest_place → length b ≤ largest_place → Put ys at b₀ b p
completes_done rest ys p at b b₀ k e h l = k b p (rw e (put_none b p h l))

-- the answer for a text of n bytes
module _ (n room : ℕ) where
  pub room_long : (x : Refusal) → x ≡ without_text TextTooLong → text_limit < n → Err x ≡ room_answer n room
  unfolding room_answer
  room_long x e h = rw (e, lt-leb n text_limit h)

  pub room_short : (x : Refusal) → x ≡ without_text NoRoom → n ≤ text_limit → room < n → Err x ≡ room_answer n room
  unfolding room_answer
  room_short x e h l = rw (e, le-leb n text_limit h, lt-leb n room l)

  pub room_enough : n ≤ text_limit → n ≤ room → Ok n ≡ room_answer n room
  unfolding room_answer
  room_enough h l = rw (le-leb n text_limit h, le-leb n room l)

-- a text is written exactly where it fits the limit and the room
granted : (s t : Bool) (n m : ℕ) (x y : Refusal) → cond s (cond t (Ok n) (Err x)) (Err y) ≡ Ok m → (s ≡ true) × (t ≡ true) × (n ≡ m)
granted true true n m x y e = (refl, refl, cc)
granted true false n m x y e = (refl, cc, cc)
granted false t n m x y e = (cc, cc, cc)

pub room_granted : (n room m : ℕ) → room_answer n room ≡ Ok m → (n ≤ text_limit) × (n ≤ room) × (n ≡ m)
unfolding room_answer
room_granted n room m e =
    let g = granted (leb n text_limit) (leb n room) n m _ _ e in
    (leb-true n text_limit g.0, leb-true n room g.1, g.2)

-- a length measured by a put into an empty buffer is told apart as the length itself
pub measured : (n room : ℕ) → room_answer (onward 0 n) room ≡ room_answer n room
measured n room = go (leb n largest_place) refl
  where
    go : (t : Bool) → leb n largest_place ≡ t → room_answer (onward 0 n) room ≡ room_answer n room
    go true e =
        let l = leb-true n largest_place e in
        let q : onward 0 n ≡ n = omega arith in
        rw q
    go false e =
        let l = leb-false n largest_place e in
        sym (room_long (onward 0 n) room _ refl (omega arith)) ∙ room_long n room _ refl (omega arith)

-- from the answer and a put at the front to what writing promises
module _ (bytes before : List ℕ) (answer : Result ℕ Refusal) (is : answer ≡ room_answer (length bytes) (length before)) where
  pub write_refused : (x : Refusal) → answer ≡ Err x → Wrote bytes before before (Err x)
  write_refused x q = record { is = sym q ∙ is; left = refl }

  pub write_put : (n r : ℕ) (after : List ℕ) → answer ≡ Ok n → Put bytes 0 before after r → Wrote bytes before after (Ok r)
  write_put n r after q f =
      let g = room_granted (length bytes) (length before) n (sym is ∙ q) in
      let z : 0 + length bytes ≡ length bytes = omega arith in
      let e : r ≡ length bytes = omega (arith, f.next, f.room, g.1) in
      let s : sets before 0 bytes ≡ bytes ++ drop (0 + length bytes) before = sets-eq bytes before 0 (omega (arith, g.1)) in
      record { is = rw e (room_enough (length bytes) (length before) g.0 g.1); left = rw (f.stored, e) (rw z at s) }

-- the same where the length was measured
module _ (bytes before none none' : List ℕ) (m : ℕ) (measure : Put bytes 0 none none' m) (answer : Result ℕ Refusal) (is : answer ≡ room_answer m (length before)) where
  told : answer ≡ room_answer (length bytes) (length before)
  told = is ∙ rw measure.next (measured (length bytes) (length before))

  pub write_measured_refused : (x : Refusal) → answer ≡ Err x → Wrote bytes before before (Err x)
  write_measured_refused x q = write_refused bytes before answer told x q

  pub write_measured_put : (n r : ℕ) (after : List ℕ) → answer ≡ Ok n → Put bytes 0 before after r → Wrote bytes before after (Ok r)
  write_measured_put n r after q f = write_put bytes before answer told n r after q f

-- bytes and a line feed
module _ (bytes before : List ℕ) (m : ℕ) (em : m ≡ onward (length bytes) 1) (answer : Result ℕ Refusal) (is : answer ≡ room_answer m (length before)) where
  fed_told : answer ≡ room_answer (length (bytes ++ (10 ∷ []))) (length before)
  fed_told =
      let q : onward (length bytes) 1 ≡ onward 0 (length (bytes ++ (10 ∷ []))) = omega (arith, length-append bytes (10 ∷ [])) in
      is ∙ rw (em, q) (measured (length (bytes ++ (10 ∷ []))) (length before))

  pub fed_refused : (x : Refusal) → answer ≡ Err x → Wrote (bytes ++ (10 ∷ [])) before before (Err x)
  fed_refused x q = write_refused (bytes ++ (10 ∷ [])) before answer fed_told x q

  pub fed_put : (n p r : ℕ) (b after : List ℕ) → answer ≡ Ok n → Put bytes 0 before b p → Put (10 ∷ []) p b after r → Wrote (bytes ++ (10 ∷ [])) before after (Ok r)
  fed_put n p r b after q f g = write_put (bytes ++ (10 ∷ [])) before answer fed_told n r after q (put_then f g)

-- bytes one by one
pub bytes_step : (xs : List ℕ) (i p q at : ℕ) (b b₁ b₀ : List ℕ) → Completes (drop i xs) p b xs at b₀ → i < length xs → Put (get_or xs i 0 ∷ []) p b b₁ q → Completes (drop (i + 1) xs) q b₁ xs at b₀
bytes_step xs i p q at b b₁ b₀ k h f = completes_step (drop i xs) (get_or xs i 0 ∷ []) (drop (i + 1) xs) xs p q at b b₁ b₀ k (rw (add-one, drop-cons xs i 0 h)) f

pub bytes_done : (xs : List ℕ) (i p at : ℕ) (b b₀ : List ℕ) → Completes (drop i xs) p b xs at b₀ → length xs ≤ i → p ≤ largest_place → length b ≤ largest_place → Put xs at b₀ b p
bytes_done xs i p at b b₀ k h l m = completes_done (drop i xs) xs p at b b₀ k (drop_of_length-le xs h) l m
