-- The words of a text stand in it, and show where its bytes are allowed: all their bytes are 33 to 126. Assumes nothing.
use mathlib.Core.Path.{◌≡◌, refl, ap}
use mathlib.Core.Bool.{Bool, true, false, ◌&&◌}
use mathlib.Core.List.{List, [], ◌∷◌}
use Prim.Native.Nat.{ℕ, zero, suc, ◌-◌, ◌≤◌}
use native.Mathlib.Omega.{arith}
use lib.ListN.{length, take, drop, length-drop}
use lib.Dec.{leb, eqb}
use borrow.Author.Tests.{le-leb, leb-true, eqb-false, le-ltb, lt-ltb}
use Rattle.text.specs.declared.Class.{Class}
use Rattle.text.specs.declared.Class.TheVariants.{Blank, Word, Line, Allowed, Graphic}
use Rattle.text.specs.Scan.{is_in, one_more, run, end_of}
use Rattle.text.specs.Words.{line_end, next_line, next_word, word_at, bytes_of}
use Rattle.text.proofs.Laws.{either, more_ones, word_ends}
use Rattle.text.proofs.TextLaws.{All, both}
use Rattle.text.proofs.CheckLaws.{run_most}

-- a byte of a word that is allowed
shows : (b : ℕ) → is_in Word b ≡ true → is_in Allowed b ≡ true → is_in Graphic b ≡ true
shows b h k = go (eqb b 32) (eqb b 9) (eqb b 10) refl refl refl
  where
    go : (x y z : Bool) → eqb b 32 ≡ x → eqb b 9 ≡ y → eqb b 10 ≡ z → is_in Graphic b ≡ true
    go true y z p q r = absurd (let w : ◌≡◌ {A = Bool} false true = rw p at h in let v : ◌≡◌ {A = ℕ} 0 1 = cc in omega arith)
    go false true z p q r = absurd (let w : ◌≡◌ {A = Bool} false true = rw (p, q) at h in let v : ◌≡◌ {A = ℕ} 0 1 = cc in omega arith)
    go false false true p q r = absurd (let w : ◌≡◌ {A = Bool} false true = rw (p, q, r) at h in let v : ◌≡◌ {A = ℕ} 0 1 = cc in omega arith)
    go false false false p q r =
        let w : (leb 32 b && leb b 126) ≡ true = rw (q, r) at k in
        let u = both (leb 32 b) (leb b 126) w in
        let l : 32 ≤ b = leb-true 32 b u.0 in
        let n : b ≡ 32 → ⊥ = eqb-false b 32 p in
        let m : 33 ≤ b = above b l n in
        rw (le-leb 33 b m, u.1)
      where
        above : (b : ℕ) → 32 ≤ b → (b ≡ 32 → ⊥) → 33 ≤ b
        above b l n = either b 32 (33 ≤ b) (λ h. absurd (n (omega arith))) (λ h. omega arith)

all_both : (xs : List ℕ) → All Word xs → All Allowed xs → All Graphic xs
unfolding run
all_both [] h k = refl
all_both (b ∷ xs) h k =
    let u = more_ones (is_in Word b) (run Word xs) (length xs) h in
    let v = more_ones (is_in Allowed b) (run Allowed xs) (length xs) k in
    rw (shows b u.0 v.0) (ap suc (all_both xs u.1 v.1))

all_drop : (c : Class) (n : ℕ) (xs : List ℕ) → All c xs → All c (drop n xs)
unfolding run
all_drop c zero xs h = h
all_drop c (suc n) [] h = refl
all_drop c (suc n) (b ∷ xs) h = all_drop c n xs (more_ones (is_in c b) (run c xs) (length xs) h).1

all_take : (c : Class) (n : ℕ) (xs : List ℕ) → All c xs → All c (take n xs)
unfolding run
all_take c zero xs h = refl
all_take c (suc n) [] h = refl
all_take c (suc n) (b ∷ xs) h = let u = more_ones (is_in c b) (run c xs) (length xs) h in rw u.0 (ap suc (all_take c n xs u.1))

-- the front of a list that is of a class
pub take_run : (c : Class) (xs : List ℕ) → All c (take (run c xs) xs)
unfolding run
take_run c [] = refl
take_run c (b ∷ xs) = go (is_in c b) refl (take_run c xs)
  where
    go : (t : Bool) → is_in c b ≡ t → All c (take (run c xs) xs) → All c (take (one_more t (run c xs)) (b ∷ xs))
    go true e h = rw e (ap suc h)
    go false e h = refl

-- A WORD OF AN ALLOWED TEXT SHOWS
pub word_shows : (s : List ℕ) (line k : ℕ) → All Allowed s → All Graphic (bytes_of s (word_at s line k))
unfolding bytes_of end_of
word_shows s line k h =
    let b = (word_at s line k).start in
    let z : (word_at s line k).end - b ≡ run Word (drop b s) = omega (arith, word_ends s line k) in
    rw z (all_both (take (run Word (drop b s)) (drop b s)) (take_run Word (drop b s)) (all_take Allowed (run Word (drop b s)) (drop b s) (all_drop Allowed b s h)))

-- THE WORDS OF A TEXT STAND IN IT
module _ (s : List ℕ) where
  pub scan_in : (c : Class) (i : ℕ) → i ≤ length s → end_of c s i ≤ length s
  unfolding end_of
  scan_in c i h = omega (arith, run_most c (drop i s), length-drop i s)

  pub next_in : (i : ℕ) → i ≤ length s → ((next_word s i).start ≤ length s) × ((next_word s i).end ≤ length s)
  unfolding next_word
  next_in i h = (scan_in Blank i h, scan_in Word (end_of Blank s i) (scan_in Blank i h))

  pub word_in : (line k : ℕ) → line ≤ length s → ((word_at s line k).start ≤ length s) × ((word_at s line k).end ≤ length s)
  unfolding word_at
  word_in line zero h = next_in line h
  word_in line (suc k) h = next_in (word_at s line k).end (word_in line k h).1

  pub line_in : (line : ℕ) → line ≤ length s → next_line s line ≤ length s
  unfolding next_line line_end
  line_in line h = either (length s) (end_of Line s line) _
      (λ k. rw (le-ltb (end_of Line s line) (length s) k) (scan_in Line line h))
      (λ k. rw (lt-ltb (end_of Line s line) (length s) k) (omega arith))
