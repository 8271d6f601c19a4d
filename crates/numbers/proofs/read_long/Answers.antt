-- The digits passed, and those from here on, have the value of them all. Assumes nothing.
use borrow.Author.Rules.{rules}
use mathlib.Core.Path.{refl}
use Rattle.numbers.specs.Numbers.{value}
use Rattle.numbers.proofs.NumberLaws.{not_spelt, value_more, tens_large, digit_large, value_small, value_done}
use Rattle.numbers.proofs.read_long.Goals as goal

pub returns-then-not-well_spelt : goal.returns-then-not-well_spelt
returns-then-not-well_spelt c = record { is = search not_spelt; near = refl }

pub loop-b-init : goal.loop-b-init
unfolding value
loop-b-init c = (search rules, refl)

pub returns-then-tens-acc : goal.returns-then-tens-acc
returns-then-tens-acc c = record { is = search tens_large; near = refl }

pub returns-then-most-acc : goal.returns-then-most-acc
returns-then-most-acc c = record { is = search digit_large; near = refl }

pub loop-b-preserved : goal.loop-b-preserved
loop-b-preserved c = (search rules, search value_more)

pub returns-then-acc-least : goal.returns-then-acc-least
returns-then-acc-least c = record { is = search value_small; near = refl }

pub returns : goal.returns
returns c = record { is = search value_done; near = refl }
