-- The two answers of a writer. Assumes nothing.
use Rattle.cases.proofs.CaseLaws.{written_length, text_refused, text_written}
use Rattle.cases.proofs.puts.put_text.Goals as goal

pub slice_bounds-put_shown-end : goal.slice_bounds-put_shown-end
slice_bounds-put_shown-end c = search written_length

pub returns-in-Err : goal.returns-in-Err
returns-in-Err c = search (text_refused, text_written)

pub returns-in-Ok : goal.returns-in-Ok
returns-in-Ok c = search (text_refused, text_written)
