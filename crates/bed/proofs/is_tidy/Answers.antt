-- The words one after the other. Assumes nothing.
use Rattle.bed.proofs.StandardLaws.{name_fits, tidy_nine, tidy_twelve}
use native.Mathlib.Omega.{arith}
use Rattle.bed.proofs.is_tidy.Goals as goal

pub overflow_add-name_end : goal.overflow_add-name_end
overflow_add-name_end c = omega (arith, name_fits _ _ c.requires c.if-r.false)

pub returns-then-r-2 : goal.returns-then-r-2
returns-then-r-2 c = λ q. search tidy_nine

pub returns : goal.returns
returns c = λ q. search tidy_twelve
