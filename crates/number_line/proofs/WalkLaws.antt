-- Laws of the walk over a line's words: what each word in hand shows. Assumes nothing.
use mathlib.Core.Path.{◌≡◌, refl, sym, ap, ◌∙◌}
use mathlib.Core.List.{List, [], ◌∷◌, ◌++◌}
use Prim.Native.Nat.{ℕ, ◌+◌, ◌-◌, ◌≤◌, ◌<◌}
use native.Mathlib.Omega.{arith}
use lib.ListN.{length, take, drop}
use Rattle.ledger.specs.Limits.{largest_place}
use Rattle.text.specs.Checks.{then_check}
use Rattle.text.specs.declared.Extent.{Extent}
use Rattle.text.specs.Pieces.{line_of, words_of}
use Rattle.text.specs.Words.{next_word, bytes_of, word_count}
use Rattle.text.proofs.PieceLaws.{words_same, words_step, words_none, word_again, count_done}
use Rattle.numbers.specs.Numbers.{NumberRead}
use Rattle.numbers.specs.Lists.{good_values}
use Rattle.writing.specs.Puts.{Put}
use Rattle.writing.proofs.PutLaws.{Completes, completes_step, completes_done}
use Rattle.binary.specs.Bytes.{word_size, low_bytes, words_bytes}
use Rattle.number_line.specs.Numbers.{largest_listed, words_from}
use Rattle.number_line.specs.Walks.{Walked}
use Rattle.std.specs.Prelude.{Ok, Err, Result, ⊤}
use Rattle.ledger.specs.declared.Fault.{Fault}

-- the words from a place on
abbrev pub rest_of : List ℕ → ℕ → List (List ℕ)
rest_of s i = words_of (line_of (drop i s))

abbrev pub good_from : List ℕ → ℕ → List ℕ
good_from s i = words_bytes (good_values 0 largest_listed (rest_of s i))

-- blanks passed, the words are tested alike
from_same : (s : List ℕ) (i : ℕ) (w : Extent) (ws : List (List ℕ)) → w ≡ next_word s i → words_from s w.start ws ≡ words_from s i ws
unfolding words_from
from_same s i w [] e = refl
from_same s i w (x ∷ ws) e = rw (← (word_again s i w e), e)

pub tested_from : (s : List ℕ) (i : ℕ) (w : Extent) → w ≡ next_word s i → words_from s w.start (rest_of s w.start) ≡ words_from s i (rest_of s i)
tested_from s i w e = from_same s i w (rest_of s w.start) e ∙ ap (words_from s i) (rw e (words_same s i))

good_same : (s : List ℕ) (i : ℕ) (w : Extent) → w ≡ next_word s i → good_from s w.start ≡ good_from s i
good_same s i w e = ap (λ (ws : List (List ℕ)). words_bytes (good_values 0 largest_listed ws)) (rw e (words_same s i))

pub completes_first : (s : List ℕ) (w : Extent) (b : List ℕ) → w ≡ next_word s 0 → Completes (good_from s w.start) 0 b (good_from s 0) 0 b
completes_first s w b e b' r f = rw (good_same s 0 w e) at f

-- the word in hand
module _ (s : List ℕ) (w : Extent) (is : w ≡ next_word s w.start) where
  words_there : w.start < w.end → rest_of s w.start ≡ bytes_of s w ∷ rest_of s w.end
  words_there h =
      let k : (next_word s w.start).start < (next_word s w.start).end = rw is at h in
      words_step s w.start k ∙ λ i. bytes_of s (sym is i) ∷ rest_of s (sym is i).end

  words_over : w.start ≤ w.end → w.end ≤ w.start → rest_of s w.start ≡ []
  words_over l h =
      let q : w.start ≡ w.end = omega arith in
      let k : (next_word s w.start).start ≡ (next_word s w.start).end = rw is at q in
      words_none s w.start k

  -- tested alike
  module _ (all : Result ⊤ Fault) (tested : words_from s w.start (rest_of s w.start) ≡ all) where
    tested_done : w.start ≤ w.end → w.end ≤ w.start → Ok tt ≡ all
    unfolding words_from
    tested_done l h = rw (words_over l h) at tested

    module _ (r : Result ℕ Fault) (h : w.start < w.end) (read : NumberRead 0 largest_listed (take (w.end - w.start) (drop w.start s)) r) where
      tested_bad : (bad : Fault) → r ≡ Err bad → Err (record { reason = bad.reason; place = w.start }) ≡ all
      unfolding words_from bytes_of
      tested_bad bad e = rw (words_there h, ← read.is, e, ← is) at tested

      pub tested_good : (v : ℕ) (w' : Extent) → r ≡ Ok v → w' ≡ next_word s w.end → words_from s w'.start (rest_of s w'.start) ≡ all
      unfolding words_from bytes_of
      tested_good v w' e e' = tested_from s w.end w' e' ∙ rw (words_there h, ← read.is, e, ← is) at tested

  -- stored alike
  module _ (p at : ℕ) (b b₀ ys : List ℕ) (inv : Completes (good_from s w.start) p b ys at b₀) where
    stored_done : w.start ≤ w.end → w.end ≤ w.start → p ≤ largest_place → length b ≤ largest_place → Put ys at b₀ b p
    unfolding good_values words_bytes
    stored_done l h k m = completes_done (good_from s w.start) ys p at b b₀ inv (rw (words_over l h)) k m

    module _ (r : Result ℕ Fault) (h : w.start < w.end) (read : NumberRead 0 largest_listed (take (w.end - w.start) (drop w.start s)) r) where
      stored_bad : (bad : Fault) → r ≡ Err bad → p ≤ largest_place → length b ≤ largest_place → Put ys at b₀ b p
      unfolding good_values words_bytes bytes_of
      stored_bad bad e k m = completes_done (good_from s w.start) ys p at b b₀ inv (rw (words_there h, ← read.is, e)) k m

      pub stored_good : (v q : ℕ) (b₁ : List ℕ) (w' : Extent) → r ≡ Ok v → Put (low_bytes word_size v) p b b₁ q → w' ≡ next_word s w.end → Completes (good_from s w'.start) q b₁ ys at b₀
      unfolding good_values words_bytes bytes_of
      stored_good v q b₁ w' e f e' =
          let g : good_from s w.start ≡ low_bytes word_size v ++ good_from s w.end = rw (words_there h, ← read.is, e) in
          let next : Completes (good_from s w.end) q b₁ ys at b₀ = completes_step (good_from s w.start) (low_bytes word_size v) (good_from s w.end) ys p q at b b₁ b₀ inv g f in
          λ b' x k. next b' x (rw (good_same s w.end w' e') at k)

  -- the walk's answer
  module _ (tested : words_from s w.start (rest_of s w.start) ≡ words_from s 0 (rest_of s 0)) (p : ℕ) (b b₀ : List ℕ) (inv : Completes (good_from s w.start) p b (good_from s 0) 0 b₀)
      (hp : p ≤ largest_place) (hb : length b ≤ largest_place) where
    answer : Result ⊤ Fault → Result ℕ Fault
    answer c = then_check Err c (Ok (word_count s 0))

    pub walked_bad : (r : Result ℕ Fault) → w.start < w.end → NumberRead 0 largest_listed (take (w.end - w.start) (drop w.start s)) r → (bad : Fault) → r ≡ Err bad
        → Walked s b₀ b (Err (record { reason = bad.reason; place = w.start }))
    unfolding answer
    walked_bad r h read bad e = record {
      is = ap answer (tested_bad (words_from s 0 (rest_of s 0)) tested r h read bad e);
      stored = (stored_bad p 0 b b₀ (good_from s 0) inv r h read bad e hp hb).stored;
    }

    pub walked_all : (n : ℕ) → w.start ≤ w.end → w.end ≤ w.start → n + word_count s w.start ≡ word_count s 0 → Walked s b₀ b (Ok n)
    unfolding answer
    walked_all n l h count = record {
      is = rw (count_done s 0 n w is count l h) (ap answer (tested_done (words_from s 0 (rest_of s 0)) tested l h));
      stored = (stored_done p 0 b b₀ (good_from s 0) inv l h hp hb).stored;
    }
