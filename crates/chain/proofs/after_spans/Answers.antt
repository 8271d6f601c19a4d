-- The walk decides, and the last stages go on. Assumes nothing.
use Rattle.std.proofs.lemmas.Result.{err_from_is_err_and}
use Rattle.chain.proofs.StageLaws.{spans_faulty, spans_on}
use Rattle.chain.proofs.after_spans.Goals as goal

pub returns-in_err-e : goal.returns-in_err-e
returns-in_err-e c =
    let p = err_from_is_err_and c.from_residual.result c.from_residual.ensures.1 in
    rw (p.1, p.2) (search (spans_faulty, c.in_err-e.was))

pub returns : goal.returns
returns c = search (spans_on, c.in_ok-e.was)
