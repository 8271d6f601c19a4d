-- Refused, or the record's numbers and its rows. Assumes nothing.
use Rattle.entries.proofs.EntryLaws.{parse_chain_refused, parse_chain_accepted}
use Rattle.entries.proofs.StageLaws.{chain_parts}
use Rattle.entries.proofs.parse_chain.Goals as goal

pub returns-in-Err : goal.returns-in-Err
returns-in-Err c = search parse_chain_refused

pub returns-in-Ok : goal.returns-in-Ok
returns-in-Ok c = search (parse_chain_accepted, chain_parts)
