-- The next line begins further on (LineLaws). Assumes nothing.
use Rattle.cases.proofs.LineLaws.{less_left}
use Rattle.samples.proofs.answer_lines.Goals as goal

pub loop-line-smaller : goal.loop-line-smaller
loop-line-smaller c = search less_left
