-- The checks of a text as facts: its length and bytes, and that it has one line. Assumes nothing.
use mathlib.Core.Path.{◌≡◌, refl, sym, ap, ◌∙◌}
use mathlib.Core.Bool.{Bool, true, false, ◌||◌}
use mathlib.Core.List.{List, [], ◌∷◌, ◌++◌}
use Prim.Native.Nat.{ℕ, suc, ◌+◌, ◌-◌, ◌≤◌, ◌<◌}
use native.Mathlib.Omega.{arith}
use lib.ListN.{length, take, drop, drop_of_length-le}
use lib.Dec.{leb, eqb}
use borrow.Author.Tests.{le-leb, lt-leb, leb-true, eqb-true}
use Rattle.ledger.specs.Limits.{text_limit}
use Rattle.ledger.specs.declared.Reason.TheVariants.{WrongCount}
use Rattle.text.specs.declared.Class.{Class}
use Rattle.text.specs.declared.Class.TheVariants.{Blank, Line, Allowed}
use Rattle.text.specs.declared.Extent.{Extent}
use Rattle.text.specs.Scan.{is_in, one_more, run, end_of}
use Rattle.text.specs.Checks.{text_check, last_line_check, words_check}
use Rattle.text.specs.Pieces.{pieces_of, non_empty, lines_of, line_of, words_of, joined}
use Rattle.text.specs.Words.{line_end, next_line, word_at, word_count}
use Rattle.text.proofs.StageLaws.{require_passes}
use Rattle.text.proofs.Laws.{either, text_good, line_last}
use Rattle.text.proofs.TextLaws.{All, all_append, in_allowed}
use Rattle.text.proofs.PieceLaws.{lines_none, lines_step, pieces_join, Worded, worded_more, joined_in_line, line_joined}
use Rattle.std.specs.Prelude.{Ok, Err}

-- a scan ends in the text
pub run_most : (c : Class) (s : List ℕ) → run c s ≤ length s
unfolding run
run_most c [] = omega arith
run_most c (b ∷ s) = go (is_in c b) (run_most c s)
  where
    go : (t : Bool) → run c s ≤ length s → one_more t (run c s) ≤ suc (length s)
    go true h = omega arith
    go false h = omega arith

empty_none : word_count [] 0 ≡ 0
unfolding word_count line_of words_of non_empty pieces_of run
empty_none = refl

-- the text's length and bytes
module _ (s : List ℕ) where
  pub text_of_lem : text_check s ≡ Ok tt → (length s ≤ text_limit) × (run Allowed s ≡ length s)
  unfolding text_check end_of
  text_of_lem e =
      let a = require_passes (leb (length s) text_limit) _ _ e in
      let b = require_passes (leb (length s) (end_of Allowed s 0)) _ _ a.1 in
      let l : length s ≤ 0 + run Allowed s = leb-true (length s) (end_of Allowed s 0) b.0 in
      (leb-true (length s) text_limit a.0, omega (arith, run_most Allowed s))

  pub text_is : length s ≤ text_limit → run Allowed s ≡ length s → text_check s ≡ Ok tt
  unfolding end_of
  text_is h e = sym (text_good s (end_of Allowed s 0) h refl (omega arith))

  -- its one line
  line_is_first : take (line_end s 0 - 0) (drop 0 s) ≡ line_of s
  unfolding line_end end_of line_of
  line_is_first =
      let q : 0 + run Line s - 0 ≡ run Line s = omega arith in
      rw q

  pub lines_split : 0 < length s → lines_of s ≡ line_of s ∷ lines_of (drop (next_line s 0) s)
  lines_split h = lines_step s 0 h ∙ ap (λ (l : List ℕ). l ∷ lines_of (drop (next_line s 0) s)) line_is_first

  pub one_of : 0 < length s → last_line_check s 0 ≡ Ok tt → lines_of s ≡ line_of s ∷ []
  unfolding last_line_check
  one_of h e =
      let l = leb-true (length s) (next_line s 0) (require_passes (leb (length s) (next_line s 0)) _ _ e).0 in
      lines_split h ∙ rw (drop_of_length-le s l, lines_none)

  pub one_is : lines_of s ≡ line_of s ∷ [] → last_line_check s 0 ≡ Ok tt
  one_is e =
      sym (line_last s 0 (next_line s 0) refl (either (length s) (next_line s 0) _ (λ h. h) (λ h.
      let p = lines_split (omega arith) in
      let q = lines_step s (next_line s 0) h in
      absurd (let z : ◌≡◌ {A = ℕ} 0 1 = cc in omega arith))))

  pub some_text : 1 ≤ word_count s 0 → 0 < length s
  some_text h = go s h
    where
      go : (t : List ℕ) → 1 ≤ word_count t 0 → 0 < length t
      go [] k = absurd (omega (arith, empty_none))
      go (x ∷ t) k = omega arith

-- words joined by blanks, with a line feed behind them: one line of allowed bytes
blank_allowed : (b : ℕ) → is_in Blank b ≡ true → is_in Allowed b ≡ true
blank_allowed b h = go (eqb b 32) (eqb b 9) refl refl h
  where
    go : (x y : Bool) → eqb b 32 ≡ x → eqb b 9 ≡ y → (x || y) ≡ true → is_in Allowed b ≡ true
    go true y e f k = rw (eqb-true b 32 e)
    go false true e f k = rw (eqb-true b 9 f)
    go false false e f k = absurd (let q : ◌≡◌ {A = ℕ} 0 1 = cc in omega arith)

module _ (sep : ℕ) (blank : is_in Blank sep ≡ true) where
  pub joined_allowed : (ws : List (List ℕ)) → Worded ws → All Allowed (joined sep ws)
  unfolding joined run
  joined_allowed [] k = refl
  joined_allowed (w ∷ []) (worded_more _ l h k) = in_allowed w h
  joined_allowed (w ∷ (v ∷ ws)) (worded_more _ l h k) = all_append Allowed w (sep ∷ joined sep (v ∷ ws)) (in_allowed w h) (rw (blank_allowed sep blank, joined_allowed (v ∷ ws) k))

  pub fed_allowed : (ws : List (List ℕ)) → Worded ws → All Allowed (joined sep ws ++ (10 ∷ []))
  unfolding run
  fed_allowed ws k = all_append Allowed (joined sep ws) (10 ∷ []) (joined_allowed ws k) refl

  pub fed_line_lem : (ws : List (List ℕ)) → Worded ws → lines_of (joined sep ws ++ (10 ∷ [])) ≡ line_of (joined sep ws ++ (10 ∷ [])) ∷ []
  unfolding lines_of
  fed_line_lem ws k = rw (line_joined sep ws [] blank k) (pieces_join Line (joined sep ws) 10 [] (joined_in_line sep ws blank k) refl ∙ ap (λ (x : List (List ℕ)). joined sep ws ∷ x) lines_none)

-- the number of words
module _ (s : List ℕ) (line n most : ℕ) (good : Bool) where
  pub words_many : (w : Extent) → most < n → w ≡ word_at s line most → Err (record { reason = WrongCount; place = w.start }) ≡ words_check s line n most good
  unfolding words_check
  words_many w h e = rw (lt-leb n most h, e)

  pub words_good : n ≤ most → good ≡ true → (Ok tt) ≡ words_check s line n most good
  unfolding words_check
  words_good h g = rw (le-leb n most h, g)

  pub words_bad : (e : ℕ) → n ≤ most → good ≡ false → e ≡ line_end s line → Err (record { reason = WrongCount; place = e }) ≡ words_check s line n most good
  unfolding words_check
  words_bad e h g q = rw (le-leb n most h, g, q)

  pub words_hold : words_check s line n most good ≡ Ok tt → (n ≤ most) × (good ≡ true)
  unfolding words_check
  words_hold e =
      let a = require_passes (leb n most) _ _ e in
      (leb-true n most a.0, (require_passes good _ _ a.1).0)
