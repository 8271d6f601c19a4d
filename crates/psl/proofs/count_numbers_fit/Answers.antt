-- Each number by its limit. Assumes nothing.
use mathlib.Core.Path.{refl}
use Rattle.psl.specs.Tests.{count_numbers_fit}
use Rattle.psl.proofs.count_numbers_fit.Goals as goal

pub returns : goal.returns
unfolding count_numbers_fit
returns c = refl
