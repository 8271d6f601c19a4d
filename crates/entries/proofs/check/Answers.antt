-- By kind. Assumes nothing.
use Rattle.entries.specs.Entries.{checked}
use Rattle.entries.proofs.KindLaws.{code_bed, code_psl, code_chain, code_other}
use Rattle.entries.proofs.check.Goals as goal

pub returns-in-1 : goal.returns-in-1
unfolding checked
returns-in-1 c = search code_bed

pub returns-in-2 : goal.returns-in-2
unfolding checked
returns-in-2 c = search code_psl

pub returns-in-3 : goal.returns-in-3
unfolding checked
returns-in-3 c = search code_chain

pub returns-in_default : goal.returns-in_default
unfolding checked
returns-in_default c = search code_other
