-- Refused, or the record's numbers and its rows. Assumes nothing.
use Rattle.entries.proofs.EntryLaws.{parse_psl_refused, parse_psl_accepted}
use Rattle.entries.proofs.StageLaws.{psl_parts}
use Rattle.entries.proofs.parse_psl.Goals as goal

pub returns-in-Err : goal.returns-in-Err
returns-in-Err c = search parse_psl_refused

pub returns-in-Ok : goal.returns-in-Ok
returns-in-Ok c = search (parse_psl_accepted, psl_parts)
