-- The short form, the list's fault, or its three numbers as one. Assumes nothing.
use Rattle.std.proofs.lemmas.Result.{err_from_is_err_and}
use Rattle.kinds.proofs.SpellLaws.{colours}
use Rattle.kinds.proofs.read_colour.Goals as goal

pub returns-then-same_bytes : goal.returns-then-same_bytes
returns-then-same_bytes c = search colours

pub returns-in_err-read_list : goal.returns-in_err-read_list
returns-in_err-read_list c =
    let p = err_from_is_err_and c.from_residual.result c.from_residual.ensures.1 in
    rw (p.1, p.2) (search (colours, c.in_err-read_list.was))

pub returns : goal.returns
returns c = search (colours, c.in_ok-read_list.was)
