-- Written, or refused. Assumes nothing.
use Rattle.entries.proofs.WriteLaws.{code_written, code_refused}
use Rattle.entries.proofs.written_code.Goals as goal

pub returns-in-Ok : goal.returns-in-Ok
returns-in-Ok c = search code_written

pub returns-in-Err : goal.returns-in-Err
returns-in-Err c = search code_refused
