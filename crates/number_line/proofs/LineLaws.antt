-- A TEXT IS ACCEPTED EXACTLY WHEN ITS WORDS ARE THE DIGITS OF NUMBERS (specs/Rules.antt). Assumes nothing.
use mathlib.Core.Path.{◌≡◌, refl, sym, ap, ◌∙◌}
use mathlib.Core.List.{List, [], ◌∷◌, map}
use Prim.Native.Nat.{ℕ, ◌≤◌, ◌<◌}
use native.Mathlib.Omega.{arith}
use lib.ListN.{length, drop}
use Rattle.text.specs.Checks.{then_check, text_check, last_line_check}
use Rattle.text.specs.Pieces.{lines_of, line_of, words_of}
use Rattle.text.specs.Words.{next_word, next_line}
use Rattle.text.proofs.Laws.{line_last}
use Rattle.text.proofs.CheckLaws.{text_of_lem, text_is, lines_split, one_of, one_is}
use Rattle.text.proofs.PieceLaws.{lines_none}
use Rattle.numbers.specs.Numbers.{value, number_of}
use Rattle.numbers.specs.Ranges.{Between, between_none, between_more}
use Rattle.numbers.specs.Lists.{good_values}
use Rattle.numbers.proofs.ListLaws.{value_is}
use Rattle.writing.specs.Digits.{digits}
use Rattle.writing.proofs.DigitLaws.{Most}
use Rattle.kinds.proofs.DecimalLaws.{number_as, as_number, values_listed}
use Rattle.number_line.specs.Numbers.{largest_listed, or_word, words_from, numbers_in, numbers_answer, numbers_stages, numbers_check}
use Rattle.number_line.specs.Rules.{NumbersText}
use Rattle.std.specs.Prelude.{Ok, Err, Result, ⊤}
use Rattle.ledger.specs.declared.Fault.{Fault}

largest_small : largest_listed < Most
largest_small = omega arith

-- ---- the words
-- words found good: their values, all of them, and each in its range
pub record Good (ws : List (List ℕ)) : Type 0 where
  pub values : good_values 0 largest_listed ws ≡ map value ws
  pub range : Between 0 largest_listed (map value ws)
  pub words : ws ≡ map digits (map value ws)

pub words_good : (s : List ℕ) (at : ℕ) (ws : List (List ℕ)) → words_from s at ws ≡ Ok tt → Good ws
unfolding words_from good_values
words_good s at [] h = record { values = refl; range = between_none; words = refl }
words_good s at (w ∷ ws) h = go (number_of 0 largest_listed w) refl h (words_good s (next_word s at).end ws)
  where
    go : (x : Result ℕ Fault) → number_of 0 largest_listed w ≡ x → or_word x (next_word s at).start (words_from s (next_word s at).end ws) ≡ Ok tt
        → (words_from s (next_word s at).end ws ≡ Ok tt → Good ws) → Good (w ∷ ws)
    go (Err bad) e k rec = absurd (let o : ◌≡◌ {A = ℕ} 0 1 = cc in omega arith)
    go (Ok v) e k rec =
        let g = rec k in
        let d = number_as 0 largest_listed v w largest_small e in
        let z : value w ≡ v = value_is 0 largest_listed w v e in
        record {
          values = rw (e, ← z) (ap (λ (vs : List ℕ). value w ∷ vs) g.values);
          range = between_more {v = value w} (omega arith) (omega (arith, z, d.high)) g.range;
          words = λ i. (d.word ∙ ap digits (sym z)) i ∷ g.words i;
        }

-- words whose values are all there are good
pub all_good : (s : List ℕ) (at : ℕ) (ws : List (List ℕ)) → length (good_values 0 largest_listed ws) ≡ length ws → words_from s at ws ≡ Ok tt
unfolding words_from good_values
all_good s at [] h = refl
all_good s at (w ∷ ws) h = go (number_of 0 largest_listed w) refl (λ l. all_good s (next_word s at).end ws l)
  where
    go : (x : Result ℕ Fault) → number_of 0 largest_listed w ≡ x → (length (good_values 0 largest_listed ws) ≡ length ws → words_from s (next_word s at).end ws ≡ Ok tt)
        → or_word x (next_word s at).start (words_from s (next_word s at).end ws) ≡ Ok tt
    go (Ok v) e f = f (let k = (rw e at h) in omega (arith, k))
    go (Err bad) e f = absurd (let k = (rw e at h) in omega (arith, k))

digits_good : (s : List ℕ) (at : ℕ) (vs : List ℕ) → Between 0 largest_listed vs → words_from s at (map digits vs) ≡ Ok tt
unfolding words_from
digits_good s at [] between_none = refl
digits_good s at (v ∷ vs) (between_more low high t) =
    rw (as_number 0 largest_listed v (digits v) largest_small (record { low = low; high = high; word = refl })) (digits_good s (next_word s at).end vs t)

-- ---- the lines
last_of : (s : List ℕ) → last_line_check s 0 ≡ Ok tt → length (lines_of s) ≤ 1
last_of [] h = omega (arith, ap length lines_none)
last_of (b ∷ s) h = omega (arith, ap length (one_of (b ∷ s) (omega arith) h))

last_is : (s : List ℕ) → length (lines_of s) ≤ 1 → last_line_check s 0 ≡ Ok tt
last_is [] h = sym (line_last [] 0 (next_line [] 0) refl (omega arith))
last_is (b ∷ s) h = one_is (b ∷ s) (go (lines_of (drop (next_line (b ∷ s) 0) (b ∷ s))) (lines_split (b ∷ s) (omega arith)))
  where
    go : (xs : List (List ℕ)) → lines_of (b ∷ s) ≡ line_of (b ∷ s) ∷ xs → lines_of (b ∷ s) ≡ line_of (b ∷ s) ∷ []
    go [] e = e
    go (x ∷ xs) e = absurd (omega (arith, ap length e))

-- ---- the checks of an accepted text
pub record Checked (s : List ℕ) (n : ℕ) : Type 0 where
  pub text : text_check s ≡ Ok tt
  pub words : words_from s 0 (words_of (line_of s)) ≡ Ok tt
  pub last : last_line_check s 0 ≡ Ok tt
  pub count : n ≡ length (numbers_in s)

pub checked_of : (s : List ℕ) (n : ℕ) → numbers_stages s ≡ Ok n → Checked s n
unfolding numbers_stages
checked_of s n h = go (text_check s) (words_from s 0 (words_of (line_of s))) (last_line_check s 0) refl refl refl h
  where
    go : (a b c : Result ⊤ Fault) → text_check s ≡ a → words_from s 0 (words_of (line_of s)) ≡ b → last_line_check s 0 ≡ c
        → then_check Err a (then_check Err b (then_check Err c (Ok (length (numbers_in s))))) ≡ Ok n → Checked s n
    go (Ok _) (Ok _) (Ok _) p q r k = record { text = p; words = q; last = r; count = cc }
    go (Ok _) (Ok _) (Err x) p q r k = absurd (let o : ◌≡◌ {A = ℕ} 0 1 = cc in omega arith)
    go (Ok _) (Err x) c p q r k = absurd (let o : ◌≡◌ {A = ℕ} 0 1 = cc in omega arith)
    go (Err x) b c p q r k = absurd (let o : ◌≡◌ {A = ℕ} 0 1 = cc in omega arith)

pub checked_is : (s : List ℕ) (n : ℕ) → Checked s n → numbers_stages s ≡ Ok n
unfolding numbers_stages
checked_is s n c = rw (c.text, c.words, c.last, c.count)

-- ---- the law
told_of : (x : Result ℕ Fault) (n : ℕ) → numbers_answer x ≡ Ok n → x ≡ Ok n
told_of (Ok m) n e = cc
told_of (Err y) n e = absurd (let o : ◌≡◌ {A = ℕ} 0 1 = cc in omega arith)

pub stages_of : (s : List ℕ) (n : ℕ) → numbers_check s ≡ Ok n → numbers_stages s ≡ Ok n
unfolding numbers_check
stages_of s n e = told_of (numbers_stages s) n e

pub stages_is : (s : List ℕ) (n : ℕ) → numbers_stages s ≡ Ok n → numbers_check s ≡ Ok n
unfolding numbers_check
stages_is s n e = rw e

pub numbers_of : (s : List ℕ) (n : ℕ) → numbers_check s ≡ Ok n → NumbersText s (numbers_in s) × (n ≡ length (numbers_in s))
unfolding numbers_in
numbers_of s n h =
    let c = checked_of s n (stages_of s n h) in
    let t = text_of_lem s c.text in
    let g = words_good s 0 (words_of (line_of s)) c.words in
    (record { short = t.0; allowed = t.1; one_line = last_of s c.last; range = g.range; words = g.words }, c.count)

pub numbers_is : (s vs : List ℕ) → NumbersText s vs → (numbers_check s ≡ Ok (length vs)) × (vs ≡ numbers_in s)
unfolding numbers_in
numbers_is s vs t =
    let e : map value (words_of (line_of s)) ≡ vs = ap (map value) t.words ∙ values_listed 0 largest_listed vs largest_small t.range in
    let w : words_from s 0 (words_of (line_of s)) ≡ Ok tt = rw t.words (digits_good s 0 vs t.range) in (
      stages_is s (length vs) (checked_is s (length vs) (record { text = text_is s t.short t.allowed; words = w; last = last_is s t.one_line; count = ap length (sym e) })),
      sym e,
    )
