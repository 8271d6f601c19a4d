-- The working room holds the record's blocks, and the check decides. Assumes nothing.
use Rattle.std.proofs.lemmas.Result.{err_from_is_err_and}
use Rattle.bed.proofs.ReadLaws.{block_held, spans_stop, spans_read}
use Rattle.bed.proofs.after_spans.Goals as goal

pub check_blocks-requires : goal.check_blocks-requires
check_blocks-requires c = search block_held

pub returns-in_err-check_blocks : goal.returns-in_err-check_blocks
returns-in_err-check_blocks c =
    let p = err_from_is_err_and c.from_residual.result c.from_residual.ensures.1 in
    rw (p.1, p.2) (search (spans_stop, block_held, c.in_err-check_blocks.was))

pub returns : goal.returns
returns c = search (spans_read, block_held, c.in_ok-check_blocks.was)
