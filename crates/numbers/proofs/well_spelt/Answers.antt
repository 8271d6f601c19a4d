use Rattle.numbers.proofs.NumberLaws.{spelt_is}
use Rattle.numbers.specs.Numbers.{well_spelt}
use borrow.Author.Tests.{eq-eqb}
use Rattle.numbers.proofs.well_spelt.Goals as goal

pub returns-then-n-eq0 : goal.returns-then-n-eq0
unfolding well_spelt
returns-then-n-eq0 c = simp (eq-eqb _ _ c.if-n-eq0.true)

pub returns : goal.returns
unfolding well_spelt
returns c = search spelt_is
