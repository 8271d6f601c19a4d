-- A number: digits only, no leading zero but in `0` itself, within a least and a greatest value.
use Rattle.std.specs.Prelude.{ℕ, ◌+◌, ◌-◌, ◌*◌, ◌≤◌, ◌<◌, min, max, ◌≡◌, Bool, not, ◌&&◌, ◌||◌, List, [], ◌∷◌, length, get_or, take, drop, leb, eqb, Ok, Err, Result, Option, Some}
use Rattle.ledger.specs.declared.Reason.TheVariants.{NumberMisspelt, NumberOutOfRange}
use Rattle.text.specs.declared.Class.TheVariants.{Digit, Word}
use Rattle.text.specs.Scan.{is_in, end_of}
use Rattle.numbers.specs.declared.Digits.{Digits}
use Rattle.numbers.specs.declared.Taken.{Taken}
use Rattle.ledger.specs.Refusals.{require, fault_at}
use Rattle.numbers.specs.Spelling.{fault_in}
use Rattle.ledger.specs.declared.Fault.{Fault}

-- some digits and nothing else; the first is `0` only where it stands alone
unfoldable pub well_spelt : List ℕ → Bool
well_spelt w = not (eqb (length w) 0) && (eqb (end_of Digit w 0) (length w) && (eqb (length w) 1 || not (eqb (get_or w 0 0) 48)))

-- the value of the digits w after a number acc
unfoldable pub value_from : ℕ → List ℕ → ℕ
value_from acc [] = acc
value_from acc (b ∷ w) = value_from (acc * 10 + (b - 48)) w

unfoldable pub value : List ℕ → ℕ
value w = value_from 0 w

-- misspelt (4) before out of range (5), both at the word's first byte
unfoldable pub number_of : ℕ → ℕ → List ℕ → Result ℕ Fault
number_of least most w =
    require (well_spelt w) (Err (fault_at NumberMisspelt 0))
    (require (leb least (value w) && leb (value w) most) (Err (fault_at NumberOutOfRange 0))
    (Ok (value w)))

-- so many digits have a value below 2^64, whatever they are
abbrev pub short_limit : ℕ
short_limit = 19

-- what reading the digits from a place on promises, at most so many and at most nineteen: where they end, their value, and where that end lies, which follows
pub record DigitsRead (s : List ℕ) (i most : ℕ) (r : Digits) : Type 0 where
  pub is : r.end ≡ min (end_of Digit s i) (i + min most short_limit)
  pub means : r.value ≡ value (take (r.end - i) (drop i s))
  pub low : i ≤ r.end
  pub high : r.end ≤ max i (length s)

-- so many digits, the first of them given, are a number's: some, and no leading zero but in `0` itself
abbrev pub is_led : ℕ → ℕ → Bool
is_led n first = not (eqb n 0) && (eqb n 1 || not (eqb first 48))

-- what judging a value promises, which so many digits spell
pub record Judged (n first v least most : ℕ) (r : Result ℕ Fault) : Type 0 where
  pub is : r ≡ require (is_led n first) (Err (fault_at NumberMisspelt 0)) (require (leb least v && leb v most) (Err (fault_at NumberOutOfRange 0)) (Ok v))
  pub near : fault_in r ≡ 0

-- what reading a number promises: what it spells, and that a fault stands at its first byte, which follows
pub record NumberRead (least most : ℕ) (w : List ℕ) (r : Result ℕ Fault) : Type 0 where
  pub is : r ≡ number_of least most w
  pub near : fault_in r ≡ 0

-- whether a word ends at a place: by a byte of no word, or with the text
abbrev pub is_word_end : List ℕ → ℕ → Bool
is_word_end s i = leb (length s) i || not (is_in Word (get_or s i 0))

-- what taking the number at a place promises: where one is taken, it is what the word there spells, and ends with the
-- word
pub record NumberTaken (least most : ℕ) (s : List ℕ) (i : ℕ) (r : Option Taken) : Type 0 where
  pub means : (x : Taken) → r ≡ Some x → number_of least most (take (end_of Word s i - i) (drop i s)) ≡ Ok x.value
  pub ends : (x : Taken) → r ≡ Some x → x.end ≡ end_of Word s i
  pub some : (x : Taken) → r ≡ Some x → i < x.end
  pub inside : (x : Taken) → r ≡ Some x → x.end ≤ length s
  pub small : (x : Taken) → r ≡ Some x → x.value ≤ most
