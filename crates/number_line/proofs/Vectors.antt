-- Some texts of numbers and what is said of them. Assumes nothing.
use mathlib.Core.Path.{◌≡◌, refl}
use mathlib.Core.List.{List, [], ◌∷◌}
use Prim.Native.Nat.{ℕ}
use Rattle.std.specs.Prelude.{Ok, Err}
use Rattle.ledger.specs.declared.Reason.TheVariants.{WrongCount, NumberMisspelt, NumberOutOfRange, NoRoom}
use Rattle.text.specs.Scan.{run, end_of}
use Rattle.text.specs.Checks.{text_check, last_line_check}
use Rattle.text.specs.Pieces.{pieces_of, non_empty, line_of, words_of}
use Rattle.text.specs.Words.{line_end, next_line, next_word}
use Rattle.numbers.specs.Numbers.{well_spelt, value_from, value, number_of}
use Rattle.number_line.specs.Numbers.{words_from, numbers_in, numbers_stages, numbers_check, numbers_read}

-- `567 488` and a line feed
abbrev two : List ℕ
two = 53 ∷ 54 ∷ 55 ∷ 32 ∷ 52 ∷ 56 ∷ 56 ∷ 10 ∷ []

two_numbers : numbers_in two ≡ 567 ∷ 488 ∷ []
unfolding numbers_in line_of words_of pieces_of non_empty run value value_from
two_numbers = refl

two_accepted : numbers_read two 16 ≡ Ok 2
unfolding numbers_read numbers_stages numbers_in words_from number_of well_spelt value value_from text_check last_line_check next_line line_end next_word line_of words_of pieces_of non_empty end_of run
two_accepted = refl

two_no_room : numbers_read two 15 ≡ Err (record { reason = NoRoom; place = 8 })
unfolding numbers_read numbers_stages numbers_in words_from number_of well_spelt value value_from text_check last_line_check next_line line_end next_word line_of words_of pieces_of non_empty end_of run
two_no_room = refl

-- `567,488` is no number
comma : numbers_check (53 ∷ 54 ∷ 55 ∷ 44 ∷ 52 ∷ 56 ∷ 56 ∷ []) ≡ Err (record { reason = NumberMisspelt; place = 0 })
unfolding numbers_check numbers_stages words_from number_of well_spelt text_check next_word line_of words_of pieces_of non_empty end_of run
comma = refl

-- no line, and a line of no word
none : numbers_check [] ≡ Ok 0
unfolding numbers_check numbers_stages numbers_in words_from text_check last_line_check next_line line_end line_of words_of pieces_of non_empty end_of run
none = refl

no_word : numbers_check (32 ∷ 10 ∷ []) ≡ Ok 0
unfolding numbers_check numbers_stages numbers_in words_from text_check last_line_check next_line line_end line_of words_of pieces_of non_empty end_of run
no_word = refl

-- a second line is told after a bad word in the first
second_line : numbers_check (49 ∷ 10 ∷ 50 ∷ []) ≡ Err (record { reason = WrongCount; place = 2 })
unfolding numbers_check numbers_stages words_from number_of well_spelt value value_from text_check last_line_check next_line line_end next_word line_of words_of pieces_of non_empty end_of run
second_line = refl

bad_word : numbers_check (120 ∷ 10 ∷ 50 ∷ []) ≡ Err (record { reason = NumberMisspelt; place = 0 })
unfolding numbers_check numbers_stages words_from number_of well_spelt text_check next_word line_of words_of pieces_of non_empty end_of run
bad_word = refl

-- `1 1000000000000000000`: nineteen digits
out_of_range : numbers_check (49 ∷ 32 ∷ 49 ∷ 48 ∷ 48 ∷ 48 ∷ 48 ∷ 48 ∷ 48 ∷ 48 ∷ 48 ∷ 48 ∷ 48 ∷ 48 ∷ 48 ∷ 48 ∷ 48 ∷ 48 ∷ 48 ∷ 48 ∷ 48 ∷ []) ≡ Err (record { reason = NumberOutOfRange; place = 2 })
unfolding numbers_check numbers_stages words_from number_of well_spelt value value_from text_check next_word line_of words_of pieces_of non_empty end_of run
out_of_range = refl
