-- What the stages and the room leave is told. Assumes nothing.
use Rattle.std.proofs.lemmas.Result.{err_from_is_err_and}
use Rattle.chain.proofs.AnswerLaws.{told_ok, told_fault}
use Rattle.chain.proofs.StageLaws.{read_told}
use Rattle.chain.proofs.read_chain.Goals as goal

pub returns-in_err-read_blocks : goal.returns-in_err-read_blocks
returns-in_err-read_blocks c =
    let p = err_from_is_err_and c.from_residual.result c.from_residual.ensures.1 in
    rw (p.1, p.2) (search (read_told, told_fault, c.in_err-read_blocks.was))

pub returns : goal.returns
returns c = search (read_told, told_ok, c.in_ok-read_blocks.was)
