-- The first stage decides, where it finds a fault. Assumes nothing.
use Rattle.std.proofs.lemmas.Result.{err_from_is_err_and}
use Rattle.text.proofs.StageLaws.{stops}
use Rattle.chain.proofs.BlockLaws.{first_passes}
use Rattle.chain.proofs.first_of.Goals as goal
use Rattle.std.specs.Prelude.{Err, Result, ⊤}
use Rattle.ledger.specs.declared.Fault.{Fault}

pub returns-in_err-first : goal.returns-in_err-first
returns-in_err-first c =
    let p = err_from_is_err_and c.from_residual.result c.from_residual.ensures.1 in
    rw (p.1, p.2) (search (stops {A = Result ⊤ Fault} Err, c.in_err-first.was))

pub returns : goal.returns
returns c = search (first_passes, c.in_ok-first.was)
