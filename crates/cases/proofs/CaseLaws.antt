-- The answers' bytes one after the other, marks one by one, and the words of a line. Assumes nothing.
use mathlib.Core.Path.{◌≡◌, refl, ap, ◌∙◌}
use mathlib.Core.Bool.{Bool, true, false, not, ◌&&◌, ◌||◌}
use mathlib.Core.List.{List, [], ◌∷◌, ◌++◌}
use Prim.Native.Nat.{ℕ, suc, ◌+◌, ◌-◌, ◌≤◌, ◌<◌, min}
use native.Mathlib.Omega.{arith}
use native.Mathlib.Numerals.{add-one}
use lib.ListN.{length, get_or, take, drop, length-take, drop_of_length-le}
use lib.Seq.{drop-cons}
use lib.Dec.{ltb, eqb}
use borrow.Author.Tests.{eq-eqb, ne_eqb}
use Rattle.ledger.specs.declared.Refusal.{Refusal}
use Rattle.ledger.specs.Reasons.{reason_number}
use Rattle.ledger.specs.declared.Strand.{Strand}
use Rattle.ledger.specs.Limits.{largest_number, largest_place}
use Rattle.ledger.specs.Strands.{strand_letter}
use Rattle.numbers.specs.Numbers.{number_of, NumberRead}
use Rattle.text.specs.declared.Extent.{Extent}
use Rattle.text.specs.Words.{word_at, bytes_of, Found}
use Rattle.writing.specs.Puts.{Put}
use Rattle.writing.proofs.PutLaws.{Completes, completes_all, completes_step, completes_done, put_then}
use Rattle.cases.specs.Lines.{is_case, case_letter, meant, number_at}
use Rattle.cases.specs.Marks.{all_marked}
use Rattle.cases.specs.Texts.{labelled, refused_label, reason_text, refusal_text, check_text, strand_text, written_text, row_text, rows_text, spaced_text, shown_byte, shown_text, kept_text}
use Rattle.std.specs.Prelude.{Ok, Err, Result, ⊤}
use Rattle.std.specs.Result.{result_unwrap_or}
use Rattle.ledger.specs.declared.Fault.{Fault}

-- the first byte of a case, and what follows it
module _ (s : List ℕ) (b : ℕ) where
  pub case_told : b ≡ get_or s 0 0 → (ltb 0 (length s) && not (eqb b 35)) ≡ is_case s
  case_told e = rw e

  pub letter_told : (a : ℕ) → b ≡ get_or s 1 0 → (ltb (length s) 2 || eqb b 32) ≡ true → a ≡ get_or s 0 0 → a ≡ case_letter s
  unfolding case_letter
  letter_told a e h k = rw (k, rw e at h)

  pub letter_none : b ≡ get_or s 1 0 → (ltb (length s) 2 || eqb b 32) ≡ false → 0 ≡ case_letter s
  unfolding case_letter
  letter_none e h = rw (rw e at h)

-- the number of a word
meant_is : (x : Result ℕ Fault) → result_unwrap_or x 0 ≡ meant x
meant_is (Ok v) = refl
meant_is (Err bad) = refl

module _ (s : List ℕ) (k : ℕ) (w : Extent) (x : Result ℕ Fault) (f : Found (word_at s 0 k) s 0 w) (n : NumberRead 0 largest_number (take (w.end - w.start) (drop w.start s)) x) where
  number_is : x ≡ number_of 0 largest_number (bytes_of s (word_at s 0 k))
  unfolding bytes_of
  number_is = rw f.is at n.is

  pub number_known : (v : ℕ) → v ≡ result_unwrap_or x 0 → v ≡ number_at s k
  number_known v e = e ∙ (meant_is x ∙ ap meant number_is)

-- marks one by one
module _ (vs : List ℕ) (i : ℕ) (t : Bool) (k : all_marked (drop i vs) ≡ t) where
  module _ (h : i < length vs) where
    next : (eqb (get_or vs i 0) 7 && all_marked (drop (i + 1) vs)) ≡ t
    unfolding all_marked
    next = rw add-one (rw (drop-cons vs i 0 h) at k)

    pub mark_kept : get_or vs i 0 ≡ 7 → all_marked (drop (i + 1) vs) ≡ t
    mark_kept e = rw (eq-eqb (get_or vs i 0) 7 e) at next

    pub mark_lost : (get_or vs i 0 ≡ 7 → ⊥) → false ≡ t
    mark_lost e = rw (ne_eqb (get_or vs i 0) 7 e) at next

  pub marks_end : length vs ≤ i → true ≡ t
  unfolding all_marked
  marks_end h = rw (drop_of_length-le vs h) at k

pub marks_three : (a b c a' b' c' : Bool) → a ≡ a' → b ≡ b' → c ≡ c' → (a && (b && c)) ≡ (a' && (b' && c'))
marks_three a b c a' b' c' ea eb ec = rw (ea, eb, ec)

-- the length of a text that a writer left
pub written_length : (buf : List ℕ) (n m : ℕ) → m ≡ min n (length buf) → m ≡ length (take m buf)
written_length buf n m e = rw length-take (omega arith)

-- what a function of a few ways puts, way by way
module _ (at r : ℕ) (o o' : List ℕ) where
  pub kept_true : (k : Bool) → k ≡ true → Put (kept_text true) at o o' r → Put (kept_text k) at o o' r
  kept_true k e f = rw e f

  pub kept_false : (k : Bool) → k ≡ false → Put (kept_text false) at o o' r → Put (kept_text k) at o o' r
  kept_false k e f = rw e f

  pub reason_put : (x : Refusal) (n : ℕ) → n ≡ reason_number x.reason → Put (labelled refused_label n) at o o' r → Put (reason_text x) at o o' r
  reason_put x n e f = rw (← e) f

  pub check_holds : (c : Result ⊤ Refusal) → c ≡ Ok tt → Put (check_text (Ok tt)) at o o' r → Put (check_text c) at o o' r
  check_holds c e f = rw e f

  pub check_refused : (c : Result ⊤ Refusal) (x : Refusal) → c ≡ Err x → Put (refusal_text x) at o o' r → Put (check_text c) at o o' r
  check_refused c x e f = rw e f

  pub text_refused : (buf : List ℕ) (w : Result ℕ Refusal) (x : Refusal) → w ≡ Err x → Put (refusal_text x) at o o' r → Put (written_text buf w) at o o' r
  text_refused buf w x e f = rw e f

  pub text_written : (buf : List ℕ) (w : Result ℕ Refusal) (n m : ℕ) → w ≡ Ok n → m ≡ min n (length buf) → Put (shown_text (take m buf)) at o o' r → Put (written_text buf w) at o o' r
  text_written buf w n m e k f = rw (e, ← k) f

pub strand_put : (s : Strand) (b at p r : ℕ) (o o₁ o₂ : List ℕ) → b ≡ strand_letter s → Put (32 ∷ []) at o o₁ p → Put (b ∷ []) p o₁ o₂ r → Put (strand_text s) at o o₂ r
strand_put s b at p r o o₁ o₂ e f g = rw (← e) (put_then f g)

-- a byte as it is shown
pub shown_tab : (b p r : ℕ) (o o' : List ℕ) → b ≡ 9 → Put (92 ∷ 116 ∷ []) p o o' r → Put (shown_byte b) p o o' r
unfolding shown_byte
shown_tab b p r o o' e f = rw e f

pub shown_feed : (b p r : ℕ) (o o' : List ℕ) → (b ≡ 9 → ⊥) → b ≡ 10 → Put (92 ∷ 110 ∷ []) p o o' r → Put (shown_byte b) p o o' r
unfolding shown_byte
shown_feed b p r o o' n e f = rw e f

pub shown_self : (b p r : ℕ) (o o' : List ℕ) → (b ≡ 9 → ⊥) → (b ≡ 10 → ⊥) → Put (b ∷ []) p o o' r → Put (shown_byte b) p o o' r
unfolding shown_byte
shown_self b p r o o' n m f = rw (ne_eqb b 9 n, ne_eqb b 10 m) f

-- a loop that puts one thing for each number
module _ (vs : List ℕ) (i p at : ℕ) (b b₀ : List ℕ) where
  spaced_next : i < length vs → spaced_text (drop i vs) ≡ labelled (32 ∷ []) (get_or vs i 0) ++ spaced_text (drop (i + 1) vs)
  unfolding spaced_text
  spaced_next h = rw (drop-cons vs i 0 h, add-one i)

  spaced_past : length vs ≤ i → spaced_text (drop i vs) ≡ []
  unfolding spaced_text
  spaced_past h = rw (drop_of_length-le vs h)

  module _ (k : Completes (spaced_text (drop i vs)) p b (spaced_text vs) at b₀) where
    pub spaced_step : (q : ℕ) (b₁ : List ℕ) → i < length vs → Put (labelled (32 ∷ []) (get_or vs i 0)) p b b₁ q → Completes (spaced_text (drop (i + 1) vs)) q b₁ (spaced_text vs) at b₀
    spaced_step q b₁ h f = completes_step _ _ _ (spaced_text vs) p q at b b₁ b₀ k (spaced_next h) f

    pub spaced_done : length vs ≤ i → p ≤ largest_place → length b ≤ largest_place → Put (spaced_text vs) at b₀ b p
    spaced_done h l m = completes_done _ (spaced_text vs) p at b b₀ k (spaced_past h) l m

  shown_next : i < length vs → shown_text (drop i vs) ≡ shown_byte (get_or vs i 0) ++ shown_text (drop (i + 1) vs)
  unfolding shown_text
  shown_next h = rw (drop-cons vs i 0 h, add-one i)

  shown_past : length vs ≤ i → shown_text (drop i vs) ≡ []
  unfolding shown_text
  shown_past h = rw (drop_of_length-le vs h)

  module _ (k : Completes (shown_text (drop i vs)) p b (shown_text vs) at b₀) where
    pub shown_step : (q : ℕ) (b₁ : List ℕ) → i < length vs → Put (shown_byte (get_or vs i 0)) p b b₁ q → Completes (shown_text (drop (i + 1) vs)) q b₁ (shown_text vs) at b₀
    shown_step q b₁ h f = completes_step _ _ _ (shown_text vs) p q at b b₁ b₀ k (shown_next h) f

    pub shown_done : length vs ≤ i → p ≤ largest_place → length b ≤ largest_place → Put (shown_text vs) at b₀ b p
    shown_done h l m = completes_done _ (shown_text vs) p at b b₀ k (shown_past h) l m

-- the rows of three tables
module _ (ts qs zs : List ℕ) (n i p at : ℕ) (b b₀ : List ℕ) where
  rows_next : i < n → rows_text (n - i) i ts qs zs ≡ row_text (get_or ts i 0) (get_or qs i 0) (get_or zs i 0) ++ rows_text (n - (i + 1)) (i + 1) ts qs zs
  unfolding rows_text
  rows_next h = let e : n - i ≡ suc (n - (i + 1)) = omega arith in rw e

  rows_past : n ≤ i → rows_text (n - i) i ts qs zs ≡ []
  unfolding rows_text
  rows_past h = let e : n - i ≡ 0 = omega arith in rw e

  module _ (k : Completes (rows_text (n - i) i ts qs zs) p b (rows_text n 0 ts qs zs) at b₀) where
    pub rows_step : (t q' z q : ℕ) (b₁ : List ℕ) → i < n → t ≡ get_or ts i 0 → q' ≡ get_or qs i 0 → z ≡ get_or zs i 0 → Put (row_text t q' z) p b b₁ q → Completes (rows_text (n - (i + 1)) (i + 1) ts qs zs) q b₁ (rows_text n 0 ts qs zs) at b₀
    rows_step t q' z q b₁ h et eq ez f = completes_step _ _ _ (rows_text n 0 ts qs zs) p q at b b₁ b₀ k (rows_next h) (rw (et, eq, ez) at f)

    pub rows_done : n ≤ i → p ≤ largest_place → length b ≤ largest_place → Put (rows_text n 0 ts qs zs) at b₀ b p
    rows_done h l m = completes_done _ (rows_text n 0 ts qs zs) p at b b₀ k (rows_past h) l m

pub rows_start : (ts qs zs : List ℕ) (n at : ℕ) (b₀ : List ℕ) → Completes (rows_text (n - 0) 0 ts qs zs) at b₀ (rows_text n 0 ts qs zs) at b₀
rows_start ts qs zs n at b₀ = let e : n - 0 ≡ n = omega arith in rw e (completes_all (rows_text n 0 ts qs zs) at b₀)
