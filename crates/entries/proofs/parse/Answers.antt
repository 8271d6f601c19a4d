-- By kind. Assumes nothing.
use Rattle.entries.specs.Entries.{parsed}
use Rattle.entries.proofs.KindLaws.{by_bed, by_psl, by_chain, by_other}
use Rattle.entries.proofs.parse.Goals as goal

pub returns-in-1 : goal.returns-in-1
unfolding parsed
returns-in-1 c = search by_bed

pub returns-in-2 : goal.returns-in-2
unfolding parsed
returns-in-2 c = search by_psl

pub returns-in-3 : goal.returns-in-3
unfolding parsed
returns-in-3 c = search by_chain

pub returns-in_default : goal.returns-in_default
unfolding parsed
returns-in_default c = search by_other
