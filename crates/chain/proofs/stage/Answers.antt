-- The text's check decides, and the next stage goes on. Assumes nothing.
use Rattle.std.proofs.lemmas.Result.{err_from_is_err_and}
use Rattle.chain.proofs.StageLaws.{text_faulty, text_on}
use Rattle.chain.proofs.stage.Goals as goal

pub returns-in_err-check_text : goal.returns-in_err-check_text
returns-in_err-check_text c =
    let p = err_from_is_err_and c.from_residual.result c.from_residual.ensures.1 in
    rw (p.1, p.2) (search (text_faulty, c.in_err-check_text.was))

pub returns : goal.returns
returns c = search (text_on, c.in_ok-check_text.was)
