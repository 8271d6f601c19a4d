-- The header taken in one pass, or its table's columns; and the next stage goes on. Assumes nothing.
use Rattle.std.proofs.lemmas.Result.{err_from_is_err_and}
use Rattle.chain.proofs.StageLaws.{head_headed, head_on, words_headed, words_faulty, words_on}
use Rattle.chain.proofs.after_text.Goals as goal

pub after_columns-requires : goal.after_columns-requires
after_columns-requires c = search (head_headed, c.in-Some.is)

pub returns-in-Some : goal.returns-in-Some
returns-in-Some c = search (head_on, c.in-Some.is)

pub after_columns-requires-2 : goal.after_columns-requires-2
after_columns-requires-2 c = search (words_headed, c.in_ok-e.was)

pub returns-in_err-e : goal.returns-in_err-e
returns-in_err-e c =
    let p = err_from_is_err_and c.from_residual.result c.from_residual.ensures.1 in
    rw (p.1, p.2) (search (words_faulty, c.in_err-e.was))

pub returns : goal.returns
returns c = search (words_on, c.in_ok-e.was)
