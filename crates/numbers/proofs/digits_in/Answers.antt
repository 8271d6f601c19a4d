-- The value counts the digits passed, and the digits from here on end where all of them end. Assumes nothing.
use mathlib.Core.Path.{refl, ap}
use native.Mathlib.Nat.{add-zero}
use Rattle.text.specs.declared.Class.TheVariants.{Digit}
use Rattle.text.specs.Scan.{end_of}
use Rattle.numbers.specs.Numbers.{value, value_from}
use Rattle.numbers.proofs.DigitLaws.{room_left, digit_low, digit_high, one_more_passed, value_more, digits_stop, digits_end}
use Rattle.numbers.proofs.digits_in.Goals as goal

pub loop-k-init : goal.loop-k-init
unfolding value value_from
loop-k-init c = (ap (end_of Digit _) (add-zero _), refl)

pub returns-then-not-is_digit : goal.returns-then-not-is_digit
returns-then-not-is_digit c = search digits_stop

pub one_more-value-requires : goal.one_more-value-requires
one_more-value-requires c = (search room_left, search digit_low, search digit_high)

pub loop-k-preserved : goal.loop-k-preserved
loop-k-preserved c = (search one_more_passed, search value_more)

pub returns : goal.returns
returns c = search digits_end
