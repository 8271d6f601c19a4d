-- The two answers of a checker. Assumes nothing.
use Rattle.cases.proofs.CaseLaws.{check_holds, check_refused}
use Rattle.cases.proofs.puts.put_check.Goals as goal

pub returns-in-Ok : goal.returns-in-Ok
returns-in-Ok c = search (check_holds, check_refused)

pub returns-in-Err : goal.returns-in-Err
returns-in-Err c = search (check_holds, check_refused)
