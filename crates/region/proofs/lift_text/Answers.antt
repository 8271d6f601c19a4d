-- The text is refused, or its chain is accepted. Assumes nothing.
use Rattle.std.proofs.lemmas.Result.{err_from_is_err_and}
use Rattle.lift.proofs.TextLaws.{text_held}
use Rattle.region.proofs.TextLaws.{text_refused, text_lifted_lem}
use Rattle.region.proofs.lift_text.Goals as goal

pub lift_rows-requires : goal.lift_rows-requires
lift_rows-requires c = search (text_held, c.in_ok-c.was)

pub returns-in_err-c : goal.returns-in_err-c
returns-in_err-c c =
    let p = err_from_is_err_and c.from_residual.result c.from_residual.ensures.1 in
    rw (p.1, p.2) (search (text_refused, c.in_err-c.was))

pub returns : goal.returns
returns c = search (text_lifted_lem, c.in_ok-c.was)
