-- Some answers and what they write. Assumes nothing.
use mathlib.Core.Path.{◌≡◌, refl}
use mathlib.Core.List.{[], ◌∷◌}
use Prim.Native.Nat.{◌+◌, ◌*◌}
use Rattle.ledger.specs.declared.Reason.TheVariants.{NumberMisspelt, BlockRules, NoRoom, SpanDisagrees}
use Rattle.ledger.specs.Refusals.{fault_at, refusal_at}
use Rattle.text.specs.Scan.{run, end_of}
use Rattle.text.specs.Pieces.{pieces_of, non_empty, words_of, line_of}
use Rattle.text.specs.Words.{line_end, next_line, next_word}
use Rattle.text.specs.Checks.{text_check, last_line_check}
use Rattle.numbers.specs.Numbers.{well_spelt, value_from, value, number_of}
use Rattle.number_line.specs.Numbers.{words_from, numbers_in, numbers_stages, numbers_check}
use Rattle.lift.specs.Conversion.{converted}
use Rattle.binary.specs.Bytes.{low_bytes, words_bytes}
use Rattle.answers.specs.Answers.{told, gives, refuses, refuses_by, no_room_at, roomed, numbered}
use Rattle.entries.specs.Entries.{numbers_given, converted_numbers}

-- three blocks; 9 at byte 55
three_blocks : (gives 3 []).answer ≡ 16 * 3
unfolding told
three_blocks = refl

bad_blocks : (refuses (refusal_at (fault_at BlockRules 55))).answer ≡ 16 * 55 + 9
unfolding told
bad_blocks = refl

-- 5 to 33 of 80 bases is 47 to 75 on the other strand: two numbers in 16 bytes
span_turned : converted_numbers 5 33 80 16 ≡ gives 2 (47 ∷ 0 ∷ 0 ∷ 0 ∷ 0 ∷ 0 ∷ 0 ∷ 0 ∷ 75 ∷ 0 ∷ 0 ∷ 0 ∷ 0 ∷ 0 ∷ 0 ∷ 0 ∷ [])
unfolding converted_numbers converted numbered roomed words_bytes low_bytes
span_turned = refl

-- which 15 bytes do not hold; and 33 to 5 is no span
span_no_room : converted_numbers 5 33 80 15 ≡ refuses_by NoRoom
unfolding converted_numbers converted numbered roomed words_bytes low_bytes
span_no_room = refl

span_backwards : converted_numbers 33 5 80 16 ≡ refuses_by SpanDisagrees
unfolding converted_numbers converted
span_backwards = refl

-- `7 12` and a line feed: two numbers in 16 bytes; 15 do not hold them, and `7 012` is misspelt at byte 2
numbers_listed : numbers_given (55 ∷ 32 ∷ 49 ∷ 50 ∷ 10 ∷ []) 16 ≡ gives 2 (7 ∷ 0 ∷ 0 ∷ 0 ∷ 0 ∷ 0 ∷ 0 ∷ 0 ∷ 12 ∷ 0 ∷ 0 ∷ 0 ∷ 0 ∷ 0 ∷ 0 ∷ 0 ∷ [])
unfolding numbers_given numbers_check numbers_stages numbers_in words_from text_check last_line_check next_line line_end next_word end_of run line_of words_of non_empty pieces_of number_of well_spelt value value_from numbered roomed words_bytes low_bytes
numbers_listed = refl

numbers_no_room : numbers_given (55 ∷ 32 ∷ 49 ∷ 50 ∷ 10 ∷ []) 15 ≡ refuses (no_room_at 5)
unfolding numbers_given numbers_check numbers_stages numbers_in words_from text_check last_line_check next_line line_end next_word end_of run line_of words_of non_empty pieces_of number_of well_spelt value value_from numbered roomed words_bytes low_bytes
numbers_no_room = refl

numbers_misspelt : numbers_given (55 ∷ 32 ∷ 48 ∷ 49 ∷ 50 ∷ []) 16 ≡ refuses (refusal_at (fault_at NumberMisspelt 2))
unfolding numbers_given numbers_check numbers_stages words_from text_check next_word end_of run line_of words_of non_empty pieces_of number_of well_spelt value value_from
numbers_misspelt = refl
