-- Refused, or so many numbers. Assumes nothing.
use Rattle.entries.proofs.NumberLaws.{numbers_refused, numbers_accepted}
use Rattle.entries.proofs.numbers.Goals as goal

pub returns-in-Err : goal.returns-in-Err
returns-in-Err c = search numbers_refused

pub returns-in-Ok : goal.returns-in-Ok
returns-in-Ok c = search numbers_accepted
