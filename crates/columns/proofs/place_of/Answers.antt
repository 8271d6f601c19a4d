-- Past the end a number reads as 0. Assumes nothing.
use Rattle.columns.proofs.LineLaws.{place_past, place_short, place_is}
use Rattle.columns.proofs.place_of.Goals as goal

pub returns-then-n-k : goal.returns-then-n-k
returns-then-n-k c = search place_past

pub returns-then-n-k-2 : goal.returns-then-n-k-2
returns-then-n-k-2 c = search place_short

pub returns : goal.returns
returns c = search place_is
