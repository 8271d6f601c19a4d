-- The three tables. Assumes nothing.
use Rattle.cases.proofs.CaseLaws.{marks_three}
use Rattle.cases.proofs.rooms.rows_kept.Goals as goal

pub returns : goal.returns
returns c = search marks_three
