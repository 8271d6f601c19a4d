-- The walk from here is the walk from the start, and the rows so far are those of the lines before. What is left falls. Assumes nothing.
use Rattle.chain.proofs.WalkLaws.{Walking}
use Rattle.chain.proofs.walk_lines.Given as goal

abbrev pub invariant-loop-line : goal.invariant-loop-line
invariant-loop-line l = Walking l.text l.from l.target l.query l.rows l.line l.t l.q l.left

abbrev pub decreases-loop-line : goal.decreases-loop-line
decreases-loop-line l = l.left
