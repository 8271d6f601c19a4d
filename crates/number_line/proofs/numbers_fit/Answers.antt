-- Eight bytes a number. Assumes nothing.
use Rattle.number_line.proofs.ReadLaws.{fit_is}
use Rattle.number_line.proofs.numbers_fit.Goals as goal

pub returns : goal.returns
returns c = search fit_is
