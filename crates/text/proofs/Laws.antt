-- Laws of the scan (one step, a stop, the end), of words and lines by their places, of the first check, and of parts. Assumes nothing.
use mathlib.Core.Path.{◌≡◌, refl, sym, ap, ◌∙◌}
use mathlib.Core.Bool.{Bool, true, false, not, ◌&&◌, ◌||◌}
use mathlib.Core.List.{List, [], ◌∷◌, ◌++◌}
use Prim.Native.Nat.{ℕ, zero, suc, ◌+◌, ◌-◌, ◌≤◌, ◌<◌, min, max}
use native.Mathlib.Nat.{add-zero, add-sub_cancel_left}
use native.Mathlib.Numerals.{add-one}
use native.Mathlib.Omega.{arith}
use lib.ListN.{length, take, drop, get_or, take-append-drop, length-take, length-drop, drop_of_length-le}
use lib.Seq.{drop-cons, drop-drop, take_all, take-nil}
use borrow.Author.Tests.{not-true, not-false, eqb-true, leb-true, leb-false, le-leb, lt-leb, lt-ltb, le-ltb}
use lib.Dec.{leb, eqb}
use Rattle.ledger.specs.declared.Part.{Part}
use Rattle.ledger.specs.declared.Reason.TheVariants.{TextTooLong, WrongCount, ByteNotAllowed}
use Rattle.ledger.specs.Limits.{text_limit}
use Rattle.text.specs.declared.Class.{Class}
use Rattle.text.specs.Scan.{is_in, one_more, run, end_of, Scanned}
use Rattle.text.specs.declared.Class.TheVariants.{Line, Blank, Word, Allowed}
use Rattle.text.specs.declared.Extent.{Extent}
use Rattle.text.specs.Checks.{text_check, last_line_check}
use Rattle.text.specs.Parts.{part_in, part_bytes}
use Rattle.text.specs.Words.{next_word, word_at, next_line, line_end, bytes_of}
use Rattle.std.specs.Prelude.{Ok, Err}

module _ (c : Class) (s : List ℕ) (i : ℕ) where
  pub end_of_step : i < length s → is_in c (get_or s i 0) ≡ true → end_of c s i ≡ end_of c s (i + 1)
  unfolding end_of run
  end_of_step h e = rw (add-one, drop-cons s i 0 h, e) (omega arith)

  pub end_of_stop : is_in c (get_or s i 0) ≡ false → i < length s → end_of c s i ≡ i
  unfolding end_of run
  end_of_stop e h = rw (drop-cons s i 0 h, e) (omega arith)

  pub end_of_past : length s ≤ i → end_of c s i ≡ i
  unfolding end_of run
  end_of_past h = rw (drop_of_length-le s h) (omega arith)

  module _ (from : ℕ) (t : Bool) (inv : end_of c s i ≡ end_of c s from) (h : i < length s) (is : t ≡ is_in c (get_or s i 0)) where
    pub scan_found : not t ≡ true → i ≡ end_of c s from
    scan_found e = sym (end_of_stop (sym is ∙ not-true t e) h) ∙ inv

    pub scan_more : not t ≡ false → end_of c s (i + 1) ≡ end_of c s from
    scan_more e = sym (end_of_step h (sym is ∙ not-false t e)) ∙ inv

  pub scan_past : (from r : ℕ) → end_of c s i ≡ end_of c s from → length s ≤ i → from ≤ i → i ≤ max from (length s) → r ≡ max from (length s) → r ≡ end_of c s from
  scan_past from r inv h l m e = let q : r ≡ i = omega arith in q ∙ sym (end_of_past h) ∙ inv

-- the same before a stop that lies in the text
module _ (c : Class) (s : List ℕ) (i from stop : ℕ) (t : Bool) (inv : end_of c s i ≡ end_of c s from) (h : i < stop) (e : stop ≡ min (length s) (from + 32)) (is : t ≡ is_in c (get_or s i 0)) where
  pub near_found : not t ≡ true → i ≡ end_of c s from
  near_found = scan_found c s i from t inv (omega arith) is

  pub near_more : not t ≡ false → end_of c s (i + 1) ≡ end_of c s from
  near_more = scan_more c s i from t inv (omega arith) is

-- past the stop, a scan from there ends where the scan from the start does
pub near_past : (c : Class) (s : List ℕ) (i from stop m r : ℕ) → end_of c s i ≡ end_of c s from → stop ≤ i → from ≤ i → i ≤ max from stop → m ≡ max from stop → r ≡ end_of c s m → r ≡ end_of c s from
near_past c s i from stop m r inv h l k em is = let q : m ≡ i = omega arith in is ∙ ap (end_of c s) q ∙ inv

-- a run that takes all of xs goes on into what follows
pub more_ones : (t : Bool) (n m : ℕ) → one_more t n ≡ suc m → (t ≡ true) × (n ≡ m)
more_ones true n m e = (refl, omega arith)
more_ones false n m e = absurd (let z : zero ≡ suc m = e in omega arith)

pub run_append : (c : Class) (xs ys : List ℕ) → run c xs ≡ length xs → run c (xs ++ ys) ≡ length xs + run c ys
unfolding run
run_append c [] ys h = omega arith
run_append c (x ∷ xs) ys h =
    let m = more_ones (is_in c x) (run c xs) (length xs) h in
    rw (m.0, run_append c xs ys m.1) (omega arith)

pub word_next : (s : List ℕ) (line i : ℕ) (w w' : Extent) → w ≡ word_at s line i → w' ≡ next_word s w.end → w' ≡ word_at s line (i + 1)
unfolding word_at
word_next s line i w w' e e' = rw (add-one, ← e) e'

pub word_there : (s : List ℕ) (line i k : ℕ) (w : Extent) → w ≡ word_at s line i → i ≤ k → k ≤ i → w ≡ word_at s line k
word_there s line i k w e h l = let q : k ≡ i = omega arith in rw q e

-- a scan over bytes that another class has too ends on the other's way
abbrev Within : Class → Class → List ℕ → Type 0
Within c d s = run d s ≡ run c s + run d (drop (run c s) s)

within_step : (c d : Class) (x : ℕ) (s : List ℕ) (t : Bool) → is_in c x ≡ t → (is_in c x ≡ true → is_in d x ≡ true) → Within c d s → Within c d (x ∷ s)
unfolding run
within_step c d x s true e f h = rw (f e, e) (omega arith)
within_step c d x s false e f h = rw e (omega arith)

run_within : (c d : Class) → ((b : ℕ) → is_in c b ≡ true → is_in d b ≡ true) → (s : List ℕ) → Within c d s
unfolding run
run_within c d f [] = refl
run_within c d f (x ∷ s) = within_step c d x s (is_in c x) refl (f x) (run_within c d f s)

pub class_within : (c d : Class) → ((b : ℕ) → is_in c b ≡ true → is_in d b ≡ true) → (s : List ℕ) (i : ℕ) → end_of d s (end_of c s i) ≡ end_of d s i
unfolding end_of
class_within c d f s i = omega (arith, run_within c d f (drop i s), ap (run d) (drop-drop (run c (drop i s)) i s))

-- a scan within a line ends within it
line_within : (c : Class) → ((b : ℕ) → is_in c b ≡ true → is_in Line b ≡ true) → (s : List ℕ) (i : ℕ) → line_end s (end_of c s i) ≡ line_end s i
unfolding line_end
line_within c f s i = class_within c Line f s i

pub blank_line : (b : ℕ) → is_in Blank b ≡ true → is_in Line b ≡ true
blank_line b h = go (eqb b 10) refl
  where
    go : (t : Bool) → eqb b 10 ≡ t → is_in Line b ≡ true
    go true e = let z : is_in Blank 10 ≡ true = rw (eqb-true b 10 e) at h in cc
    go false e = rw e

pub word_line : (b : ℕ) → is_in Word b ≡ true → is_in Line b ≡ true
word_line b h = go (eqb b 10) refl
  where
    go : (t : Bool) → eqb b 10 ≡ t → is_in Line b ≡ true
    go true e = let z : is_in Word 10 ≡ true = rw (eqb-true b 10 e) at h in cc
    go false e = rw e

pub word_ends : (s : List ℕ) (line k : ℕ) → (word_at s line k).end ≡ end_of Word s (word_at s line k).start
unfolding word_at next_word
word_ends s line zero = refl
word_ends s line (suc k) = refl

-- every word of a line, there or not, has the line's end for its own
pub same_line : (s : List ℕ) (line k : ℕ) → line_end s (word_at s line k).start ≡ line_end s line
unfolding word_at next_word
same_line s line zero = line_within Blank blank_line s line
same_line s line (suc k) =
    line_within Blank blank_line s (word_at s line k).end
    ∙ ap (line_end s) (word_ends s line k) ∙ line_within Word word_line s (word_at s line k).start ∙ same_line s line k

-- the line of a word's end is the line of the place before it
pub word_line_end : (s : List ℕ) (i : ℕ) → line_end s (next_word s i).end ≡ line_end s i
unfolding next_word
word_line_end s i = line_within Word word_line s (end_of Blank s i) ∙ line_within Blank blank_line s i

pub next_as : (s : List ℕ) (i j : ℕ) → line_end s i ≡ line_end s j → next_line s i ≡ next_line s j
unfolding next_line
next_as s i j e = rw e

pub last_as : (s : List ℕ) (i j : ℕ) → line_end s i ≡ line_end s j → last_line_check s i ≡ last_line_check s j
unfolding last_line_check
last_as s i j e = rw (next_as s i j e)

-- where a scan has ended, none of the class follows
pub run_ended : (c : Class) (s : List ℕ) → run c (drop (run c s) s) ≡ 0
unfolding run
run_ended c [] = refl
run_ended c (x ∷ s) = go (is_in c x) refl (run_ended c s)
  where
    go : (t : Bool) → is_in c x ≡ t → run c (drop (run c s) s) ≡ 0 → run c (drop (run c (x ∷ s)) (x ∷ s)) ≡ 0
    go true e h = rw e h
    go false e h = rw (e, e)

pub starts_unblank : (s : List ℕ) (line k : ℕ) → run Blank (drop (word_at s line k).start s) ≡ 0
unfolding word_at next_word end_of
starts_unblank s line zero = rw (← drop-drop) (run_ended Blank (drop line s))
starts_unblank s line (suc k) = rw (← drop-drop) (run_ended Blank (drop (word_at s line k).end s))

-- neither a blank nor a word's byte: a line feed
feed : (a b d : Bool) (n m k : ℕ) → one_more (a || b) n ≡ 0 → one_more (not (a || b || d)) m ≡ 0 → one_more (not d) k ≡ 0
feed true b d n m k h l = absurd (let z : suc n ≡ 0 = h in omega arith)
feed false true d n m k h l = absurd (let z : suc n ≡ 0 = h in omega arith)
feed false false true n m k h l = refl
feed false false false n m k h l = absurd (let z : suc m ≡ 0 = l in omega arith)

pub no_line : (s : List ℕ) → run Blank s ≡ 0 → run Word s ≡ 0 → run Line s ≡ 0
unfolding run
no_line [] h l = refl
no_line (x ∷ s) h l = feed (eqb x 32) (eqb x 9) (eqb x 10) (run Blank s) (run Word s) (run Line s) h l

-- an empty word is its own next word, and so every later one
empty_next : (s : List ℕ) (w : Extent) → run Blank (drop w.start s) ≡ 0 → w.end ≡ end_of Word s w.start → w.start ≡ w.end → next_word s w.end ≡ w
unfolding next_word end_of
empty_next s w z e h = let q : w.start + 0 ≡ w.start = omega arith in rw (← h, z, q, ← e, ← h)

empty_later : (s : List ℕ) (line i d : ℕ) → (word_at s line i).start ≡ (word_at s line i).end → word_at s line (i + d) ≡ word_at s line i
unfolding word_at
empty_later s line i zero h = rw add-zero
empty_later s line i (suc d) h =
    let q : i + suc d ≡ suc (i + d) = omega arith in
    rw (q, empty_later s line i d h) (empty_next s (word_at s line i) (starts_unblank s line i) (word_ends s line i) h)

pub word_stays : (s : List ℕ) (line i k : ℕ) (w : Extent) → w ≡ word_at s line i → w.start ≡ w.end → i ≤ k → w ≡ word_at s line k
word_stays s line i k w e h l =
    let q : i + (k - i) ≡ k = omega arith in
    let z : (word_at s line i).start ≡ (word_at s line i).end = rw e at h in
    e ∙ sym (empty_later s line i (k - i) z) ∙ ap (word_at s line) q

-- two numbers, either way round
pub either : (a b : ℕ) (P : Type 0) → (a ≤ b → P) → (b < a → P) → P
either a b P f g = go (leb a b) refl
  where
    go : (t : Bool) → leb a b ≡ t → P
    go true e = f (leb-true a b e)
    go false e = g (leb-false a b e)

-- a part cut off at the text's end holds the same bytes
abbrev Cut : List ℕ → ℕ → ℕ → Type 0
Cut s a e = take (min e (length s) - min a (min e (length s))) (drop (min a (min e (length s))) s) ≡ take (e - a) (drop a s)

cut_in : (s : List ℕ) (a e : ℕ) → a ≤ min e (length s) → Cut s a e
cut_in s a e h =
    let p : min a (min e (length s)) ≡ a = omega arith in
    either e (length s) _
    (λ k. let q : min e (length s) ≡ e = omega arith in rw (p, q))
    (λ k. rw (p, take_all (min e (length s) - a) (drop a s) (rw length-drop (omega arith)), take_all (e - a) (drop a s) (rw length-drop (omega arith))))

cut_out : (s : List ℕ) (a e : ℕ) → min e (length s) < a → Cut s a e
cut_out s a e h =
    let p : min e (length s) - min a (min e (length s)) ≡ 0 = omega arith in
    either e a _
    (λ k. let q : e - a ≡ 0 = omega arith in rw (p, q))
    (λ k. let q : length s ≤ a = omega arith in rw (p, drop_of_length-le s q, take-nil))

pub cut_off : (s : List ℕ) (a e : ℕ) → Cut s a e
cut_off s a e = either a (min e (length s)) _ (cut_in s a e) (cut_out s a e)

pub cut_bytes : (s : List ℕ) (w : Extent) (a e : ℕ) → e ≡ min w.end (length s) → a ≡ min w.start e → take (e - a) (drop a s) ≡ bytes_of s w
unfolding bytes_of
cut_bytes s w a e ee ea = rw (ea, ee) (cut_off s w.start w.end)

-- the three answers of the first check
module _ (s : List ℕ) where
  pub text_long : text_limit < length s → Err (record { reason = TextTooLong; place = 0 }) ≡ text_check s
  unfolding text_check
  text_long h = rw (lt-leb (length s) text_limit h)

  module _ (bad : ℕ) (h : length s ≤ text_limit) (is : bad ≡ end_of Allowed s 0) where
    pub text_bad : bad < length s → Err (record { reason = ByteNotAllowed; place = bad }) ≡ text_check s
    unfolding text_check
    text_bad k = rw (← is, le-leb (length s) text_limit h, lt-leb (length s) bad k)

    pub text_good : length s ≤ bad → (Ok tt) ≡ text_check s
    unfolding text_check
    text_good k = rw (← is, le-leb (length s) text_limit h, le-leb (length s) bad k)

-- a test of all bytes: those passed, and those from here on
module _ (c : Class) (s : List ℕ) (i : ℕ) (good : Bool) (inv : (good && leb (length s) (end_of c s i)) ≡ leb (length s) (end_of c s 0)) where
  pub all_more : (good' : Bool) (t : Bool) → t ≡ is_in c (get_or s i 0) → i < length s → good' ≡ (good && t) → (good' && leb (length s) (end_of c s (i + 1))) ≡ leb (length s) (end_of c s 0)
  all_more good' true is h e = rw e (go good (rw (end_of_step c s i h (sym is)) at inv))
    where
      go : (g : Bool) → (g && leb (length s) (end_of c s (i + 1))) ≡ leb (length s) (end_of c s 0) → ((g && true) && leb (length s) (end_of c s (i + 1))) ≡ leb (length s) (end_of c s 0)
      go true k = k
      go false k = k
  all_more good' false is h e = rw e (go good (rw (end_of_stop c s i (sym is) h, lt-leb (length s) i h) at inv))
    where
      go : (g : Bool) → (g && false) ≡ leb (length s) (end_of c s 0) → ((g && false) && leb (length s) (end_of c s (i + 1))) ≡ leb (length s) (end_of c s 0)
      go true k = k
      go false k = k

  pub all_done : length s ≤ i → good ≡ leb (length s) (end_of c s 0)
  all_done h = go good (rw (end_of_past c s i h, le-leb (length s) i h) at inv)
    where
      go : (g : Bool) → (g && true) ≡ leb (length s) (end_of c s 0) → g ≡ leb (length s) (end_of c s 0)
      go true k = k
      go false k = k

-- a stride whose bytes are all of the class is passed
run_short : (c : Class) (s : List ℕ) → run c s ≤ length s
unfolding run
run_short c [] = omega arith
run_short c (b ∷ s) = go (is_in c b) (run_short c s)
  where
    go : (t : Bool) → run c s ≤ length s → one_more t (run c s) ≤ suc (length s)
    go true h = omega arith
    go false h = omega arith

module _ (c : Class) (s : List ℕ) (from i n e : ℕ) (inv : end_of c s i ≡ end_of c s from) where
  pub stride_more : (t : Bool) → i < n → n ≡ length s → e ≡ i + 32 → 32 ≤ n - i → t ≡ leb (length (take (e - i) (drop i s))) (end_of c (take (e - i) (drop i s)) 0) → not t ≡ false → end_of c s e ≡ end_of c s from
  unfolding end_of
  stride_more t h en ee k is q =
      let l : length (take (e - i) (drop i s)) ≡ e - i = rw (length-take, length-drop) (omega arith) in
      let m : length (take (e - i) (drop i s)) ≤ 0 + run c (take (e - i) (drop i s)) = leb-true _ _ (sym is ∙ not-false t q) in
      let a : run c (take (e - i) (drop i s)) ≡ length (take (e - i) (drop i s)) = omega (arith, run_short c (take (e - i) (drop i s))) in
      let b = run_append c (take (e - i) (drop i s)) (drop (e - i) (drop i s)) a in
      let d : i + (e - i) ≡ e = omega arith in
      omega (arith, inv, l, ap (run c) (sym (take-append-drop (e - i) (drop i s))), b, ap (run c) (drop-drop (e - i) i s), ap (λ k. run c (drop k s)) d)

module _ (s : List ℕ) (h : length s ≤ text_limit) (t : Bool) (et : t ≡ leb (length s) (end_of Allowed s 0)) where
  pub text_allowed : t ≡ true → (Ok tt) ≡ text_check s
  text_allowed e = text_good s (end_of Allowed s 0) h refl (leb-true (length s) (end_of Allowed s 0) (sym et ∙ e))

  pub text_refused : t ≡ false → (bad : ℕ) → Scanned Allowed s 0 bad → Err (record { reason = ByteNotAllowed; place = bad }) ≡ text_check s
  text_refused e bad is = text_bad s bad h is.is (omega (arith, is.is, leb-false (length s) (end_of Allowed s 0) (sym et ∙ e)))

-- the next line, where the line ends by a feed and where it doesn't
module _ (s : List ℕ) (line e : ℕ) (is : e ≡ line_end s line) where
  pub next_fed : e < length s → e + 1 ≡ next_line s line
  unfolding next_line
  next_fed h = rw (← is, lt-ltb e (length s) h)

  pub next_none : length s ≤ e → e ≡ next_line s line
  unfolding next_line
  next_none h = rw (← is, le-ltb e (length s) h)

-- a part that starts past the text's end, one that ends past it, and one that lies in it
module _ (s : List ℕ) (p : Part) where
  pub part_past : length s < p.start → record { start = length s; length = 0 } ≡ part_in s p
  unfolding part_in
  part_past h = rw (lt-leb (p.start + p.length) (length s) (omega arith))

  pub part_long : length s - p.start < p.length → record { start = length s; length = 0 } ≡ part_in s p
  unfolding part_in
  part_long h = rw (lt-leb (p.start + p.length) (length s) (omega arith))

  pub part_fits : p.start ≤ length s → p.length ≤ length s - p.start → p ≡ part_in s p
  unfolding part_in
  part_fits h k = rw (le-leb (p.start + p.length) (length s) (omega arith))

  pub part_cut : (r : Part) → r ≡ part_in s p → take (r.start + r.length - r.start) (drop r.start s) ≡ part_bytes s (part_in s p)
  unfolding part_bytes
  part_cut r is = rw (← is, add-sub_cancel_left)

-- a line after the last one
module _ (s : List ℕ) (line n : ℕ) (en : n ≡ next_line s line) where
  pub line_surplus : n < length s → (w : Extent) → w ≡ next_word s n → Err (record { reason = WrongCount; place = w.start }) ≡ last_line_check s line
  unfolding last_line_check
  line_surplus h w ew = rw (← en, lt-leb (length s) n h, ew)

  pub line_last : length s ≤ n → (Ok tt) ≡ last_line_check s line
  unfolding last_line_check
  line_last h = rw (← en, le-leb (length s) n h)
