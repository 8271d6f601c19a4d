-- The text's own checks, then those of its line. Assumes nothing.
use Rattle.std.proofs.lemmas.Result.{err_from_is_err_and}
use Rattle.number_line.proofs.ReadLaws.{text_bad, text_good}
use Rattle.number_line.proofs.stage.Goals as goal

pub returns-in_err-check_text : goal.returns-in_err-check_text
returns-in_err-check_text c =
    let p = err_from_is_err_and c.from_residual.result c.from_residual.ensures.1 in
    rw (p.1, p.2) (search (text_bad, c.in_err-check_text.was))

pub returns : goal.returns
returns c = search (text_good, c.in_ok-check_text.was)
