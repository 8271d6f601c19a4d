-- The next line begins further on (LineLaws). Assumes nothing.
use Rattle.cases.proofs.LineLaws.{less_left}
use Rattle.samples.proofs.lines_case.Goals as goal

pub loop-line-smaller : goal.loop-line-smaller
loop-line-smaller c = search less_left
