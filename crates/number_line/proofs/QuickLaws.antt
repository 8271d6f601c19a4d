-- Laws of the quick way: numbers parted by single blanks, and what a text of such a line is. Assumes nothing.
use mathlib.Core.Path.{◌≡◌, refl, sym, ap, ◌∙◌}
use mathlib.Core.Bool.{Bool, true, false, not, ◌||◌}
use mathlib.Core.List.{List, [], ◌∷◌, ◌++◌, append-nil}
use Prim.Native.Nat.{ℕ, ◌+◌, ◌-◌, ◌≤◌, ◌<◌, min}
use native.Mathlib.Numerals.{add-one}
use native.Mathlib.Omega.{arith}
use lib.ListN.{length, take, drop, set, get_or, length-set, drop_of_length-le}
use lib.Seq.{take-suc-set, append_snoc}
use lib.Dec.{leb, eqb}
use borrow.Author.Tests.{not-false, leb-true, le-leb, eqb-true}
use Rattle.text.specs.declared.Class.{Class}
use Rattle.text.specs.declared.Class.TheVariants.{Blank, Word, Line, Allowed, Digit}
use Rattle.text.specs.Scan.{is_in, run, end_of}
use Rattle.text.specs.Pieces.{pieces_of, or_skip, non_empty, words_of}
use Rattle.text.proofs.Laws.{end_of_step, end_of_past, blank_line, either}
use Rattle.text.proofs.TextLaws.{All, digit_graphic, graphic_word, graphic_line, graphic_allowed}
use Rattle.text.proofs.PieceLaws.{pieces_step}
use Rattle.numbers.specs.declared.Digits.{Digits}
use Rattle.numbers.specs.Numbers.{is_led, number_of, DigitsRead}
use Rattle.numbers.specs.Lists.{good_values}
use Rattle.numbers.proofs.DigitLaws.{value_most, part_in_lem, part_length, digits_high, digits_pass, digits_ended, judged_good, judged_part}
use Rattle.number_line.specs.Numbers.{largest_listed}
use Rattle.number_line.specs.Walks.{good_in, is_gap, QuickRead}
use Rattle.std.specs.Prelude.{Ok, Some}

-- ---- bytes
digit_word : (b : ℕ) → is_in Digit b ≡ true → is_in Word b ≡ true
digit_word b h = graphic_word b (digit_graphic b h)

digit_line : (b : ℕ) → is_in Digit b ≡ true → is_in Line b ≡ true
digit_line b h = graphic_line b (digit_graphic b h)

digit_allowed : (b : ℕ) → is_in Digit b ≡ true → is_in Allowed b ≡ true
digit_allowed b h = graphic_allowed b (digit_graphic b h)

blank_is : (b : ℕ) → is_in Blank b ≡ true → (P : Type 0) → (b ≡ 32 → P) → (b ≡ 9 → P) → P
blank_is b h P f g = go (eqb b 32) (eqb b 9) refl refl h
  where
    go : (x y : Bool) → eqb b 32 ≡ x → eqb b 9 ≡ y → (x || y) ≡ true → P
    go true y p q r = f (eqb-true b 32 p)
    go false true p q r = g (eqb-true b 9 q)
    go false false p q r = absurd (let o : ◌≡◌ {A = ℕ} 0 1 = cc in omega arith)

blank_allowed : (b : ℕ) → is_in Blank b ≡ true → is_in Allowed b ≡ true
blank_allowed b h = blank_is b h _ (λ e. rw e) (λ e. rw e)

blank_parts : (b : ℕ) → is_in Blank b ≡ true → is_in Word b ≡ false
blank_parts b h = blank_is b h _ (λ e. rw e) (λ e. rw e)

or_skip_lem : (x : List ℕ) (xs : List (List ℕ)) → 0 < length x → or_skip x xs ≡ x ∷ xs
or_skip_lem [] xs h = absurd (omega arith)
or_skip_lem (b ∷ x) xs h = refl

-- ---- a word: digits from a place on, and a gap after them
module _ (line : List ℕ) (at : ℕ) (h : at < length line) (m : ℕ) (d : Digits) (read : DigitsRead line at m d) (t : Bool) (first : ℕ) (ef : first ≡ get_or line at 0) (et : t ≡ is_led (d.end - at) first) (led : not t ≡ false)
    (u : Bool) (eu : u ≡ is_gap line d.end) (gap : not u ≡ false) where
  inside : d.end ≤ end_of Digit line at
  inside = omega (arith, read.is)

  pub end_high : d.end ≤ length line
  end_high = digits_high Digit (λ b e. e) line at d.end (omega arith) read.low inside

  gap_there : d.end < length line → is_in Blank (get_or line d.end 0) ≡ true
  gap_there l = go (leb (length line) d.end) (is_in Blank (get_or line d.end 0)) refl refl (sym eu ∙ not-false u gap)
    where
      go : (x y : Bool) → leb (length line) d.end ≡ x → is_in Blank (get_or line d.end 0) ≡ y → (x || y) ≡ true → is_in Blank (get_or line d.end 0) ≡ true
      go true y p q r = absurd (omega (arith, leb-true (length line) d.end p))
      go false true p q r = q
      go false false p q r = absurd (let o : ◌≡◌ {A = ℕ} 0 1 = cc in omega arith)

  some : at < d.end
  some = either d.end at _ (λ l. absurd (none l)) (λ l. l)
    where
      none : d.end ≤ at → ⊥
      none l =
          let z : d.end - at ≡ 0 = omega arith in
          let n : is_led 0 first ≡ true = rw z at (sym et ∙ not-false t led) in
          let o : ◌≡◌ {A = Bool} true false = sym n in
          let k : ◌≡◌ {A = ℕ} 0 1 = cc in
          omega arith

  -- a class that holds digits and blanks goes on
  class_on : (c : Class) → ((b : ℕ) → is_in Digit b ≡ true → is_in c b ≡ true) → ((b : ℕ) → is_in Blank b ≡ true → is_in c b ≡ true)
      → end_of c line (min at (length line)) ≡ end_of c line 0 → end_of c line (min (d.end + 1) (length line)) ≡ end_of c line 0
  class_on c digit blank inv = either (length line) d.end _ over within
    where
      here : end_of c line d.end ≡ end_of c line 0
      here =
          let q : min at (length line) ≡ at = omega arith in
          digits_pass c digit line at d.end (omega arith) read.low inside ∙ rw q at inv

      over : length line ≤ d.end → end_of c line (min (d.end + 1) (length line)) ≡ end_of c line 0
      over l = let q : min (d.end + 1) (length line) ≡ d.end = omega (arith, end_high) in rw q here

      within : d.end < length line → end_of c line (min (d.end + 1) (length line)) ≡ end_of c line 0
      within l =
          let q : min (d.end + 1) (length line) ≡ d.end + 1 = omega arith in
          rw q (sym (end_of_step c line d.end l (blank (get_or line d.end 0) (gap_there l))) ∙ here)

  pub allowed_on : end_of Allowed line (min at (length line)) ≡ end_of Allowed line 0 → end_of Allowed line (min (d.end + 1) (length line)) ≡ end_of Allowed line 0
  allowed_on inv = class_on Allowed digit_allowed blank_allowed inv

  pub line_on : end_of Line line (min at (length line)) ≡ end_of Line line 0 → end_of Line line (min (d.end + 1) (length line)) ≡ end_of Line line 0
  line_on inv = class_on Line digit_line blank_line inv

  word_end : d.end ≡ end_of Word line at
  word_end = digits_ended Word digit_word line at d.end (omega arith) read.low inside (λ l. blank_parts (get_or line d.end 0) (gap_there l))

  words_next : words_of (drop at line) ≡ take (d.end - at) (drop at line) ∷ words_of (drop (d.end + 1) line)
  unfolding words_of non_empty
  words_next = rw (pieces_step Word line at d.end h word_end) (or_skip_lem (take (d.end - at) (drop at line)) (non_empty (pieces_of Word (drop (d.end + 1) line))) (omega (arith, part_length line at d.end end_high, some)))

  spelt : m ≤ 18 → number_of 0 largest_listed (take (d.end - at) (drop at line)) ≡ Ok d.value
  spelt few =
      let a : All Digit (take (d.end - at) (drop at line)) = part_in_lem Digit line at d.end read.low inside in
      let l : length (take (d.end - at) (drop at line)) ≤ 18 = omega (arith, part_length line at d.end end_high, read.is) in
      let v : d.value ≤ largest_listed = rw read.means (value_most (take (d.end - at) (drop at line)) a l) in
      let j = judged_good (d.end - at) first d.value 0 largest_listed t et led (rw (le-leb 0 d.value (omega arith), le-leb d.value largest_listed v)) in
      sym (judged_part line at d.end first d.value 0 largest_listed (Ok d.value) read.low end_high a ef read.means j).is

  pub count_on : (n m : ℕ) → n + length (words_of (drop at line)) ≡ m → n + 1 + length (words_of (drop (d.end + 1) line)) ≡ m
  count_on n m inv = omega (arith, inv, ap length words_next)

  pub values_on : m ≤ 18 → (room : List ℕ) (n : ℕ) (all : List ℕ) → n < length room → take n room ++ good_in (drop at line) ≡ all → take (n + 1) (set room n d.value) ++ good_in (drop (d.end + 1) line) ≡ all
  unfolding good_values
  values_on few room n all l inv =
      let g : good_in (drop at line) ≡ d.value ∷ good_in (drop (d.end + 1) line) = rw (words_next, spelt few) in
      rw (add-one n, take-suc-set room n d.value l) (append_snoc (take n room) d.value (good_in (drop (d.end + 1) line)) ∙ rw g at inv)

-- ---- the whole line
module _ (line room : List ℕ) (at n : ℕ) (past : length line ≤ at) where
  nothing_left : words_of (drop at line) ≡ []
  unfolding words_of pieces_of non_empty
  nothing_left = rw (drop_of_length-le line past)

  class_all : (c : Class) → end_of c line (min at (length line)) ≡ end_of c line 0 → run c line ≡ length line
  unfolding end_of
  class_all c inv =
      let q : min at (length line) ≡ length line = omega arith in
      let e : end_of c line (length line) ≡ end_of c line 0 = rw q at inv in
      omega (arith, e, end_of_past c line (length line) (omega arith))

  pub plain_line : end_of Allowed line (min at (length line)) ≡ end_of Allowed line 0 → end_of Line line (min at (length line)) ≡ end_of Line line 0
      → n + length (words_of (drop at line)) ≡ length (words_of line) → take n room ++ good_in (drop at line) ≡ good_in line → n ≤ length room
      → QuickRead line room (Some n)
  unfolding good_values
  plain_line allowed in_line count values few = record {
    plain = λ m g.
        let same : n ≡ m = cc in
        rw (← same)
        (record {
          allowed = class_all Allowed allowed;
          in_line = class_all Line in_line;
          count = omega (arith, count, ap length nothing_left);
          values = sym (rw (nothing_left, append-nil (take n room)) at values);
        });
    few = λ m g. let same : n ≡ m = cc in rw (← same) few;
  }

pub few_on : (room : List ℕ) (n v : ℕ) → n < length room → n + 1 ≤ length (set room n v)
few_on room n v h = rw length-set (omega arith)

-- what the loop keeps of the bytes
pub class_first : (c : Class) (line : List ℕ) → end_of c line (min 0 (length line)) ≡ end_of c line 0
class_first c line = let q : min 0 (length line) ≡ 0 = omega arith in rw q
