-- The thickEnd word, or with 7 words the thickStart word. Assumes nothing.
use Rattle.bed.proofs.ReadLaws.{thick_end_lem, thick_start_lem}
use Rattle.bed.proofs.thick_place.Goals as goal

pub returns-then-n : goal.returns-then-n
returns-then-n c = search (thick_end_lem, thick_start_lem)

pub returns : goal.returns
returns c = search (thick_end_lem, thick_start_lem)
