-- Laws of digits that are tested and counted in one pass. Assumes nothing.
use mathlib.Core.Path.{◌≡◌, refl, sym, ap, ◌∙◌}
use mathlib.Core.Bool.{Bool, true, false, not, ◌&&◌, ◌||◌}
use mathlib.Core.List.{List, [], ◌∷◌}
use Prim.Native.Nat.{ℕ, zero, suc, ◌+◌, ◌-◌, ◌*◌, ◌≤◌, ◌<◌, min}
use native.Mathlib.Nat.{le_refl, add-zero}
use native.Mathlib.Numerals.{add-one}
use native.Mathlib.Omega.{arith}
use lib.ListN.{length, take, drop, get_or, length-take, length-drop, take-append-drop, get_or-eq_default}
use lib.Seq.{get_or-drop, get_or-take, take_all, drop-drop}
use lib.Dec.{leb, eqb}
use borrow.Author.Tests.{not-true, not-false, eq-eqb, ne_eqb, leb-true}
use Rattle.ledger.specs.declared.Reason.TheVariants.{NumberMisspelt, NumberOutOfRange}
use Rattle.text.specs.declared.Class.{Class}
use Rattle.text.specs.declared.Class.TheVariants.{Digit}
use Rattle.text.specs.Scan.{is_in, one_more, run, end_of}
use Rattle.text.proofs.Laws.{more_ones, run_append, end_of_past, end_of_stop, scan_found, scan_more, either}
use Rattle.text.proofs.CheckLaws.{run_most}
use Rattle.text.proofs.TextLaws.{All, all_within, both}
use Rattle.numbers.specs.declared.Digits.{Digits}
use Rattle.numbers.specs.Numbers.{short_limit, well_spelt, is_led, value_from, value, number_of, DigitsRead, NumberRead, Judged}
use Rattle.numbers.proofs.NumberLaws.{and_no}
use Rattle.std.specs.Prelude.{Ok, Err, Result}
use Rattle.ledger.specs.declared.Fault.{Fault}
use Rattle.ledger.specs.Refusals.{fault_at}

-- ---- the value of so many digits
unfoldable pub tens : ℕ → ℕ
tens zero = 1
tens (suc n) = 10 * tens n

tens_grow : (d i : ℕ) → tens i ≤ tens (i + d)
unfolding tens
tens_grow zero i = rw add-zero (le_refl (tens i))
tens_grow (suc d) i =
    let q : i + suc d ≡ suc (i + d) = omega arith in
    rw q (omega (arith, tens_grow d i))

tens_most : (i : ℕ) → i ≤ 18 → tens i ≤ 1000000000000000000
unfolding tens
tens_most i h = let q : i + (18 - i) ≡ 18 = omega arith in rw q at (tens_grow (18 - i) i)

pub digit_range : (b : ℕ) → is_in Digit b ≡ true → (48 ≤ b) × (b ≤ 57)
digit_range b h = let p = both (leb 48 b) (leb b 57) h in (leb-true 48 b p.0, leb-true b 57 p.1)

value_tens : (acc k : ℕ) (w : List ℕ) → acc < tens k → All Digit w → value_from acc w < tens (k + length w)
unfolding value_from run tens
value_tens acc k [] h a = rw add-zero h
value_tens acc k (b ∷ w) h a =
    let m = more_ones (is_in Digit b) (run Digit w) (length w) a in
    let d = digit_range b m.0 in
    let q : k + suc (length w) ≡ suc k + length w = omega arith in
    let n : acc * 10 + (b - 48) < 10 * tens k = omega (arith, d.0, d.1) in
    rw q (value_tens (acc * 10 + (b - 48)) (suc k) w n m.1)

-- eighteen digits leave room for one more
pub value_most : (w : List ℕ) → All Digit w → length w ≤ 18 → value w ≤ 999999999999999999
unfolding value tens
value_most w a l =
    let z : 0 < tens 0 = omega arith in
    let q : 0 + length w ≡ length w = omega arith in
    let h : value w < tens (length w) = rw q at (value_tens 0 0 w z a) in
    omega (arith, tens_most (length w) l)

-- the value of one digit more
value_take : (acc : ℕ) (s : List ℕ) (k : ℕ) → k < length s → value_from acc (take (suc k) s) ≡ value_from acc (take k s) * 10 + (get_or s k 0 - 48)
unfolding value_from
value_take acc [] k h = absurd (omega arith)
value_take acc (x ∷ s) zero h = refl
value_take acc (x ∷ s) (suc k) h = value_take (acc * 10 + (x - 48)) s k (omega arith)

-- ---- the digits from a place on
-- a part of the bytes that a scan passes
run_take : (c : Class) (s : List ℕ) (k : ℕ) → k ≤ run c s → All c (take k s)
unfolding run
run_take c [] zero h = refl
run_take c [] (suc k) h = absurd (omega arith)
run_take c (x ∷ s) zero h = refl
run_take c (x ∷ s) (suc k) h = go (is_in c x) h (λ l. run_take c s k l)
  where
    go : (t : Bool) → suc k ≤ one_more t (run c s) → (k ≤ run c s → run c (take k s) ≡ length (take k s)) → one_more t (run c (take k s)) ≡ suc (length (take k s))
    go true l f = ap suc (f (omega arith))
    go false l f = absurd (omega arith)

pub part_in_lem : (c : Class) (s : List ℕ) (i e : ℕ) → i ≤ e → e ≤ end_of c s i → All c (take (e - i) (drop i s))
unfolding end_of
part_in_lem c s i e l h = run_take c (drop i s) (e - i) (omega arith)

pub part_length : (s : List ℕ) (i e : ℕ) → e ≤ length s → length (take (e - i) (drop i s)) ≡ e - i
part_length s i e h = rw (length-take, length-drop) (omega arith)

-- the loop: k digits are passed, and v is their value
module _ (s : List ℕ) (from k v most : ℕ) (there : from + most ≤ length s) (short : most ≤ short_limit) (inv : end_of Digit s (from + k) ≡ end_of Digit s from) (is : v ≡ value (take k (drop from s))) where
  pub room_left : k < most → v ≤ 999999999999999999
  unfolding end_of
  room_left h =
      let a : All Digit (take k (drop from s)) = run_take Digit (drop from s) k (omega (arith, inv)) in
      let l : length (take k (drop from s)) ≤ 18 = rw (length-take, length-drop) (omega arith) in
      omega (arith, is, value_most (take k (drop from s)) a l)

  -- as many as a short text has, or as asked for
  at_most : from + k ≤ end_of Digit s from → k ≤ most → (k < most → from + k ≡ end_of Digit s from) → DigitsRead s from most (record { value = v; end = from + k })
  at_most l h stop = record {
    is = either most k _ (λ q. omega arith) (λ q. omega (arith, stop q));
    means = let q : from + k - from ≡ k = omega arith in rw q is;
    low = omega arith;
    high = omega arith;
  }

  module _ (b : ℕ) (t : Bool) (h : k < most) (eb : b ≡ get_or s (from + k) 0) (et : t ≡ is_in Digit b) where
    pub one_more_passed : not t ≡ false → end_of Digit s (from + (k + 1)) ≡ end_of Digit s from
    one_more_passed e =
        let q : from + (k + 1) ≡ from + k + 1 = omega arith in
        rw q (scan_more Digit s (from + k) from t inv (omega arith) (et ∙ ap (is_in Digit) eb) e)

    pub value_more : (r : ℕ) → r ≡ v * 10 + (b - 48) → r ≡ value (take (k + 1) (drop from s))
    unfolding value
    value_more r er =
        let l : k < length (drop from s) = rw length-drop (omega arith) in
        rw (er, is, eb, add-one k, value_take 0 (drop from s) k l, get_or-drop from s k 0)

    pub digits_stop : not t ≡ true → DigitsRead s from most (record { value = v; end = from + k })
    digits_stop e =
        let q : from + k ≡ end_of Digit s from = scan_found Digit s (from + k) from t inv (omega arith) (et ∙ ap (is_in Digit) eb) e in
        at_most (omega arith) (omega arith) (λ l. q)

  pub digits_end : k ≤ most → most ≤ k → DigitsRead s from most (record { value = v; end = from + most })
  unfolding end_of
  digits_end h l = let q : from + most ≡ from + k = omega arith in rw q (at_most (omega (arith, inv)) h (λ q. absurd (omega arith)))

-- past the text's end, as many as are asked for, or as many as are left
module _ (s : List ℕ) (from most : ℕ) where
  pub digits_none : length s ≤ from → DigitsRead s from most (record { value = 0; end = from })
  unfolding value value_from
  digits_none h = record {
    is = omega (arith, end_of_past Digit s from h);
    means = let q : from - from ≡ 0 = omega arith in rw q;
    low = omega arith;
    high = omega arith;
  }

  module _ (m : ℕ) (em : m ≡ min most short_limit) (d : Digits) where
    pub digits_asked : DigitsRead s from m d → DigitsRead s from most d
    digits_asked r = record { is = omega (arith, r.is); means = r.means; low = r.low; high = r.high }

    pub digits_left : from < length s → length s - from < m → DigitsRead s from (length s - from) d → DigitsRead s from most d
    unfolding end_of
    digits_left h l r = record { is = omega (arith, r.is, run_most Digit (drop from s), length-drop from s); means = r.means; low = r.low; high = r.high }

-- nineteen, or as many as are left
pub digits_short : (s : List ℕ) (from m : ℕ) (d : Digits) → m ≡ min short_limit (length s - from) → from < length s → DigitsRead s from m d → DigitsRead s from short_limit d
unfolding end_of
digits_short s from m d em h r = record { is = omega (arith, r.is, run_most Digit (drop from s), length-drop from s); means = r.means; low = r.low; high = r.high }

pub digit_low : (b : ℕ) (t : Bool) → t ≡ is_in Digit b → not t ≡ false → 48 ≤ b
digit_low b t e h = (digit_range b (sym e ∙ not-false t h)).0

pub digit_high : (b : ℕ) (t : Bool) → t ≡ is_in Digit b → not t ≡ false → b ≤ 57
digit_high b t e h = (digit_range b (sym e ∙ not-false t h)).1

pub byte_none : (w : List ℕ) (i : ℕ) → length w ≤ i → 0 ≡ get_or w i 0
byte_none w i h = sym (get_or-eq_default w 0 h)

-- a scan of a class that holds all digits passes them
module _ (c : Class) (within : (b : ℕ) → is_in Digit b ≡ true → is_in c b ≡ true) (s : List ℕ) (i e : ℕ) (h : i ≤ length s) (l : i ≤ e) (d : e ≤ end_of Digit s i) where
  pub digits_high : e ≤ length s
  unfolding end_of
  digits_high = omega (arith, run_most Digit (drop i s), length-drop i s)

  pub digits_pass : end_of c s e ≡ end_of c s i
  unfolding end_of
  digits_pass =
      let all : All c (take (e - i) (drop i s)) = all_within Digit c within (take (e - i) (drop i s)) (part_in_lem Digit s i e l d) in
      let split : run c (drop i s) ≡ length (take (e - i) (drop i s)) + run c (drop (e - i) (drop i s)) =
      ap (run c) (sym (take-append-drop (e - i) (drop i s))) ∙ run_append c (take (e - i) (drop i s)) (drop (e - i) (drop i s)) all in
      let back : i + (e - i) ≡ e = omega arith in
      let there : drop (e - i) (drop i s) ≡ drop e s = drop-drop (e - i) i s ∙ ap (λ (m : ℕ). drop m s) back in
      omega (arith, split, part_length s i e digits_high, ap (run c) there)

  -- and ends with them where no byte of the class follows
  pub digits_ended : (e < length s → is_in c (get_or s e 0) ≡ false) → e ≡ end_of c s i
  digits_ended stops = sym (either (length s) e _ (λ past. end_of_past c s e past) (λ k. end_of_stop c s e (stops k) k)) ∙ digits_pass

-- ---- a word by its digits
-- the bytes from i to e, all digits, are spelt well where no zero leads them
pub part_led : (s : List ℕ) (i e : ℕ) → i ≤ e → e ≤ length s → All Digit (take (e - i) (drop i s)) → is_led (e - i) (get_or s i 0) ≡ well_spelt (take (e - i) (drop i s))
unfolding well_spelt end_of
part_led s i e l h a =
    let n = part_length s i e h in
    let q : 0 + run Digit (drop 0 (take (e - i) (drop i s))) ≡ e - i = omega (arith, a, n) in
    rw (q, n, eq-eqb (e - i) (e - i) refl) (go (e - i) refl)
  where
    go : (k : ℕ) → k ≡ e - i → is_led k (get_or s i 0) ≡ (not (eqb k 0) && (eqb k 1 || not (eqb (get_or (take k (drop i s)) 0 0) 48)))
    go zero q = refl
    go (suc k) q = rw (get_or-take (suc k) (drop i s) 0 0 (omega arith), get_or-drop i s 0 0, add-zero i)

pub led_none : (n first : ℕ) → n ≡ 0 → false ≡ is_led n first
led_none n first e = rw e

pub led_some : (n first : ℕ) → (n ≡ 0 → ⊥) → (eqb n 1 || not (eqb first 48)) ≡ is_led n first
led_some n first h = rw (ne_eqb n 0 h)

-- a value that so many digits spell: misspelt, good, or out of range
module _ (n first v least most : ℕ) (t : Bool) (is : t ≡ is_led n first) where
  pub judged_misspelt : not t ≡ true → Judged n first v least most (Err (fault_at NumberMisspelt 0))
  judged_misspelt e = record { is = rw (← is, not-true t e); near = refl }

  module _ (led : not t ≡ false) where
    pub judged_good : (leb least v && leb v most) ≡ true → Judged n first v least most (Ok v)
    judged_good e = record { is = rw (← is, not-false t led, e); near = refl }

    pub judged_range : (leb least v && leb v most) ≡ false → Judged n first v least most (Err (fault_at NumberOutOfRange 0))
    judged_range e = record { is = rw (← is, not-false t led, e); near = refl }

-- what was judged is what the bytes from i to e spell
pub judged_part : (s : List ℕ) (i e first v least most : ℕ) (r : Result ℕ Fault) → i ≤ e → e ≤ length s → All Digit (take (e - i) (drop i s)) → first ≡ get_or s i 0 → v ≡ value (take (e - i) (drop i s))
    → Judged (e - i) first v least most r → NumberRead least most (take (e - i) (drop i s)) r
unfolding number_of
judged_part s i e first v least most r l h a ef ev j = record { is = rw (← (part_led s i e l h a), ← ev, ← ef) j.is; near = j.near }

-- a short word: its digits end it, or something else does
module _ (w : List ℕ) (least most : ℕ) (d : Digits) (read : DigitsRead w 0 (length w) d) (short : length w ≤ 19) where
  short_word : d.end ≡ end_of Digit w 0
  unfolding end_of
  short_word = omega (arith, read.is, run_most Digit (drop 0 w))

  pub word_bad : d.end < length w → NumberRead least most w (Err (fault_at NumberMisspelt 0))
  unfolding number_of well_spelt
  word_bad h = record { is = rw (← short_word, ne_eqb d.end (length w) (λ x. omega arith), and_no (not (eqb (length w) 0))); near = refl }

  pub word_digits : (first : ℕ) (r : Result ℕ Fault) → length w ≤ d.end → first ≡ get_or w 0 0 → Judged (length w) first d.value least most r → NumberRead least most w r
  word_digits first r h ef j =
      let z : d.end ≡ length w = omega (arith, read.high) in
      let n : length w - 0 ≡ length w = omega arith in
      let q : take (length w - 0) (drop 0 w) ≡ w = ap (λ (k : ℕ). take k w) n ∙ take_all (length w) w (le_refl (length w)) in
      let a : All Digit (take (length w - 0) (drop 0 w)) = part_in_lem Digit w 0 (length w) (omega arith) (omega (arith, short_word)) in
      let v : d.value ≡ value (take (length w - 0) (drop 0 w)) = rw z at read.means in
      let j' : Judged (length w - 0) first d.value least most r = rw n j in
      rw q at (judged_part w 0 (length w) first d.value least most r (omega arith) (omega arith) a ef v j')
