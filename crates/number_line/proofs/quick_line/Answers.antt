-- The words passed are plain, and their values stand in the room. Assumes nothing.
use borrow.Author.Rules.{rules}
use Prim.Native.Nat.{◌≤◌}
use mathlib.Core.Path.{refl}
use native.Mathlib.Omega.{arith}
use Rattle.number_line.proofs.QuickLaws.{class_first, allowed_on, line_on, end_high, few_on, count_on, values_on, plain_line}
use Rattle.number_line.proofs.quick_line.Goals as goal

-- a number has at most eighteen digits
digits_few : 18 ≤ 18
digits_few = omega arith

pub loop-at-init : goal.loop-at-init
loop-at-init c = (search rules, search rules, refl, search class_first, search class_first, omega arith, refl)

pub loop-at-preserved : goal.loop-at-preserved
loop-at-preserved c = (search (rules, end_high), search few_on, search rules, search allowed_on, search line_on, search count_on, search (values_on, digits_few))

pub returns : goal.returns
returns c = search plain_line
